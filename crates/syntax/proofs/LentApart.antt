-- Where a table and the names are lent apart.
use Rattle.std.proofs.Common.{◌≡◌, ℕ, ◌+◌, ◌^◌, ◌<◌, ◌≤◌, ◌≢◌, ◌-◌, min, Bool, true, false, List, [], ◌∷◌, ◌++◌, map, length, get_or, take, drop, set, Some, None, Option, is_some, sym, refl, ap, ◌∙◌, subst, ap₂, ⊎_elim, arith}
use mathlib.Core.Option.{some}
use Rattle.std.proofs.lemmas.List.{take_more_set, map_push, length_push, length-map, length-set, length-append, length-take, length-take-le, length-drop, take_all, take_at, take-append-le, get_or-map, get_or-set_same, get_or-set_other}
use Rattle.std.proofs.lemmas.Bool.{cases_lt}
use Rattle.lexer.specs.Token.{Terminal}
use Rattle.stack.specs.declared.Stack.{Stack}
use Rattle.stack.specs.Held.{held, room}
use Rattle.text.specs.declared.span.Span.{Span}
use Rattle.text.specs.First.{First}
use Rattle.text.specs.Memory.{Memory, bytes_of}
use Rattle.grammar.specs.Tree.{Expr, Args}
use Rattle.grammar.specs.Grammar.{level}
use Rattle.grammar.specs.Machine.{Target, target_of, Context, State, step}
use Rattle.grammar.specs.Notes.{note_of, forget, annotate}
use Rattle.grammar.specs.Measure.{nodes, known, learn, names_after, names_after_args}
use Rattle.nodes.specs.declared.node.Node.{Node}
use Rattle.nodes.specs.declared.node.Form.{Form}
use Rattle.nodes.specs.Trees.{Lies, span_of, at, TreeAt}
use Rattle.syntax.specs.declared.apart.Got.{Got}
use Rattle.syntax.specs.declared.read.Got as read
use Rattle.syntax.specs.declared.read.Size.{Size}
use Rattle.syntax.specs.declared.table.Table.{Table}
use Rattle.syntax.specs.Sight.{slice}
use Rattle.syntax.specs.Sizes as in-stack
use Rattle.syntax.specs.Sizes.{lone, Sized}
use Rattle.syntax.specs.Parsing as in-table
use Rattle.syntax.specs.Parsing.{target_token, Reads}
use Rattle.syntax.specs.LentApart.{Knows, Learns, named, LearnsTarget, Kept, Parsed, Sequence, Put}
use Rattle.syntax.proofs.Naming.{known_at, known-nowhere, learn-known, learn-new, learn-longer, name-bytes}
use Rattle.syntax.proofs.Reading.{Sees}
use Rattle.syntax.proofs.Forms.{leaf-read}

-- a name is learnt by where it lies
pub learnt-there : {text : List ℕ} {us vs : List Span} {m r : ℕ} (s : Span) (from to : ℕ) → from < 2 ^ 16 → from ≤ to → to ≤ length text → s ≡ span_of 0 from to
    → Learns text us vs m (bytes_of (lone text) s) r → Learns text us vs m (slice text from to) r
learnt-there {text} {us} {vs} {m} {r} s from to h le g e l = subst (λ (x : List ℕ). Learns text us vs m x r) (name-bytes text s from to h le g e) l

module _ {text : List ℕ} {us : List Span} {m : ℕ} {x : List ℕ} where
  -- more than the limit stay more
  pub learnt-many : (r : ℕ) → r ≡ 17 → min 16 (length us) < m → Learns text us us m x r
  learnt-many r e h = record {
    learns = λ ns k.
        let l = learn-longer ns x in
        let q = k.many in
        let w = k.room in
        record { room = w; many = omega arith; words = λ g. absurd (omega arith) };
  }

  -- a name that is among them
  pub learnt-known : (s : Span) (i : ℕ) → i < length (take m us) → ((d : Span) → bytes_of (lone text) (get_or (take m us) i d) ≡ bytes_of (lone text) s) → bytes_of (lone text) s ≡ x → m ≤ 16 → Learns text us us m x m
  learnt-known s i lt h e le = record {
    learns = λ ns k.
        let w = k.words le in
        let at : get_or ns i [] ≡ x = ap (λ z. get_or z i []) (sym w) ∙ get_or-map (bytes_of (lone text)) (take m us) i s [] lt ∙ h s ∙ e in
        let n : i < length ns = let a = ap length w in let b = length-map (take m us) (bytes_of (lone text)) in omega arith in
        subst (Knows text us m) (sym (learn-known ns x (known_at ns i x n at))) k;
  }

  -- a new name
  pub learnt-new : {vs : List Span} (s : Span) → ((i : ℕ) (d : Span) → i < length (take m us) → bytes_of (lone text) (get_or (take m us) i d) ≡ bytes_of (lone text) s → ⊥) → bytes_of (lone text) s ≡ x → m ≤ 16
      → vs ≡ set us m s → Learns text us vs m x (m + 1)
  learnt-new {vs} s apart e le is = record {
    learns = λ ns k.
        let f = bytes_of (lone text) in
        let w = k.words le in
        let q = k.many in
        let room = k.room in
        let n : length ns ≡ length (take m us) = ap length (sym w) ∙ length-map (take m us) f in
        let new : known ns x ≡ false = known-nowhere ns x (λ i lt g. apart i s (omega arith) (sym (get_or-map f (take m us) i s [] (omega arith)) ∙ ap (λ z. get_or z i []) w ∙ g ∙ sym e)) in
        let p = length_push ns x in
        subst (Knows text vs (m + 1)) (sym (learn-new ns x new))
        (record {
          room = ap length is ∙ length-set us m s ∙ room;
          many = omega arith;
          words = λ g. ap (λ z. map f (take (m + 1) z)) is ∙ ap (map f) (take_more_set us m s (omega arith)) ∙ map_push f (take m us) s ∙ ap₂ (λ y z. y ++ (z ∷ [])) w e;
        });
  }

-- the same by what the search among the first k found, which are as many as are known
module _ {text : List ℕ} {us : List Span} {k m : ℕ} (s : Span) (e : k ≡ m) where
  pub learnt-found : (r : Option ℕ) → First (λ z. bytes_of (lone text) z ≡ bytes_of (lone text) s) (take k us) r → is_some r ≡ true → m ≤ 16 → Learns text us us m (bytes_of (lone text) s) m
  learnt-found None f i le = let z : ◌≡◌ {A = ℕ} 0 1 = cc in absurd (omega arith)
  learnt-found (Some j) f i le =
      let g = subst (λ z. First (λ z. bytes_of (lone text) z ≡ bytes_of (lone text) s) (take z us) (Some j)) e f in learnt-known s j g.0 g.1 refl le

  pub learnt-unfound : {vs : List Span} (r : Option ℕ) → First (λ z. bytes_of (lone text) z ≡ bytes_of (lone text) s) (take k us) r → is_some r ≡ false → m ≤ 16 → vs ≡ set us k s → Learns text us vs m (bytes_of (lone text) s) (m + 1)
  learnt-unfound (Some j) f i le is = let z : ◌≡◌ {A = ℕ} 0 1 = cc in absurd (omega arith)
  learnt-unfound None f i le is =
      let g = subst (λ z. First (λ z. bytes_of (lone text) z ≡ bytes_of (lone text) s) (take z us) None) e f in learnt-new s g refl le (is ∙ ap (λ z. set us z s) e)

-- the names that a write's target adds
pub target-field : {text : List ℕ} {us : List Span} {m : ℕ} (b : Bool) (x : List ℕ) → b ≡ true → LearnsTarget text us us m (named b x) m
target-field true x e = record { learns = λ ns k. k }
target-field false x e = let z : ◌≡◌ {A = ℕ} 0 1 = cc in absurd (omega arith)

pub target-local : {text : List ℕ} {us vs : List Span} {m r : ℕ} (b : Bool) (x : List ℕ) → b ≡ false → Learns text us vs m x r → LearnsTarget text us vs m (named b x) r
target-local false x e l = record { learns = l.learns }
target-local true x e l = let z : ◌≡◌ {A = ℕ} 0 1 = cc in absurd (omega arith)

pub kept_put : {xs ys : List Node} {n m : ℕ} {x : Node} {to : ℕ} {size : Size} {g : Got} → Put xs ys n m x to size g → Kept xs ys n
kept_put {xs} {ys} {n} {m} {x} put =
    record { below = λ j i. let ne : j ≢ n = omega arith in ap (λ z. at z j) put.table ∙ get_or-set_other xs n j x _ ne }

pub put-at : {xs ys : List Node} {n m : ℕ} {x : Node} {to : ℕ} {size : Size} {g : Got} → Put xs ys n m x to size g → n < length xs → at ys n ≡ x
put-at {xs} {ys} {n} {m} {x} put h = ap (λ z. at z n) put.table ∙ get_or-set_same xs n x _ h

pub put-length : {xs ys : List Node} {n m : ℕ} {x : Node} {to : ℕ} {size : Size} {g : Got} → Put xs ys n m x to size g → length ys ≡ length xs
put-length {xs} {ys} {n} {m} {x} put = ap length put.table ∙ length-set xs n x

-- an expression of one token, whose node was put
pub leaf-made : {text : List ℕ} {base p f q : ℕ} {xs zs : List Node} {us vs : List Span} {n m m' : ℕ} {x : Form} {size : Size} {g : Got} {t : Terminal} (T : Expr ℕ) → Sees text p t f q
    → level (forget T) ≤ 1 → ((k : Context) → step (State.want k) t ≡ some (State.have (forget T) k)) → ((ns : List ℕ) → annotate 0 (forget T) (f ∷ ns) ≡ record { tree = T; rest = ns })
    → ((u : Target) → target_of (forget T) ≡ some u → t ≡ target_token u) → f ≡ note_of T → Put xs zs n m' (record { place = f; form = x }) q size g
    → nodes T ≡ 1 → Sized size T → ((ns : List (List ℕ)) → Knows text us m ns → Knows text vs m' (names_after ns T))
    → ((mem : Memory) → Lies mem text base → at zs n ≡ record { place = f; form = x } → TreeAt mem zs n T) → Parsed 1 text base p xs zs us vs n m g
leaf-made {text} {base} {p} {f} {q} {xs} {zs} {us} {vs} {n} {m} {m'} T s low go noted plain place put one sized named held =
    let len = put-length put in
    record {
      tree = T;
      reads = subst (λ z. Reads 1 text p z T) (sym put.to_is) (leaf-read T s low go noted plain);
      built = record {
        place = put.place ∙ place;
        kept = kept_put put;
        held = λ room mem lies.
            let lt : n < length xs = omega (arith, put.counted) in
            subst (λ i. TreeAt mem zs i T) (sym put.root) (held mem lies (put-at put lt));
      };
      measured = record {
        counted = omega (arith, put.counted, one);
        sized = subst (λ z. Sized z T) (sym put.size_is) sized;
        named = λ ns k. subst (λ z. Knows text vs z (names_after ns T)) (sym put.known) (named ns k);
      };
    }

-- no expression takes a name away
mutual
  pub names-longer : (ns : List (List ℕ)) (e : Expr ℕ) → length ns ≤ length (names_after ns e)
  names-longer ns (Expr.int a w) = omega arith
  names-longer ns (Expr.nil a) = omega arith
  names-longer ns (Expr.self a) = omega arith
  names-longer ns (Expr.string a w) = omega arith
  names-longer ns (Expr.local a x) = learn-longer ns x
  names-longer ns (Expr.set_local a x e) = let p = learn-longer ns x in let q = names-longer (learn ns x) e in omega arith
  names-longer ns (Expr.field a x) = omega arith
  names-longer ns (Expr.set_field a x e) = names-longer ns e
  names-longer ns (Expr.if_then_else a c d e) =
      let p = names-longer ns c in let q = names-longer (names_after ns c) d in let r = names-longer (names_after (names_after ns c) d) e in omega arith
  names-longer ns (Expr.while_do a c d) = let p = names-longer ns c in let q = names-longer (names_after ns c) d in omega arith
  names-longer ns (Expr.seq a c d) = let p = names-longer ns c in let q = names-longer (names_after ns c) d in omega arith
  names-longer ns (Expr.new a c xs) = names-longer-args ns xs
  names-longer ns (Expr.instance_of a e c) = names-longer ns e
  names-longer ns (Expr.invoke a e m xs) = let p = names-longer ns e in let q = names-longer-args (names_after ns e) xs in omega arith

  names-longer-args : (ns : List (List ℕ)) (xs : Args ℕ) → length ns ≤ length (names_after_args ns xs)
  names-longer-args ns Args.none = omega arith
  names-longer-args ns (Args.more xs e) = let p = names-longer-args ns xs in let q = names-longer (names_after_args ns xs) e in omega arith

-- names and their count, through a stack that has room for one more
module _ {text : List ℕ} {us lent back : List Span} {s t : Stack Span} {m count kept r : ℕ} (e : Expr ℕ) (l k : ℕ) (rest : List Span)
    (least : l ≡ min (length us) 17) (some : lent ≡ take l us) (others : length rest ≡ 17 - l)
    (size : room s ≡ length (lent ++ rest)) (begun : held s ≡ take k (lent ++ rest)) (as-many : min k 17 ≡ min m 17) (learns : (ns : List (List ℕ)) → in-stack.Knows text s ns → in-stack.Knows text t (names_after ns e))
    (counted : count ≡ length (held t)) (few : kept ≡ min count l) (copied : back ≡ take kept (held t)) (known : r ≡ min count 17) where
  pub names-apart : (ns : List (List ℕ)) → Knows text us m ns → Knows text (back ++ drop kept us) r (names_after ns e)
  names-apart ns q =
      let f = bytes_of (lone text) in
      let ms = map f (held s) in
      let full = q.room in
      let all : lent ≡ us = some ∙ take_all l us (omega arith) in
      let seventeen : length (lent ++ rest) ≡ 17 = length-append lent rest ∙ (let z = ap length all in omega arith) in
      let many : length ms ≡ min k 17 = length-map (held s) f ∙ ap length begun ∙ length-take k (lent ++ rest) ∙ ap (min k) seventeen in
      let before : in-stack.Knows text s ms = record { room = size ∙ seventeen; words = sym (take_all 17 ms (omega arith)) } in
      let after = learns ms before in
      let held-count : count ≡ min 17 (length (names_after ms e)) =
      counted ∙ sym (length-map (held t) f) ∙ ap length after.words ∙ length-take 17 (names_after ms e) in
      let back-length : length back ≡ kept = ap length copied ∙ length-take-le kept (held t) (omega arith) in
      let size-after : length (back ++ drop kept us) ≡ 16 = length-append back (drop kept us) ∙ (let z = length-drop kept us in omega arith) in
      let q-many = q.many in
      ⊎_elim
      (λ (gt : 16 < m).
      let longer = names-longer ns e in
      let stay = names-longer ms e in
      record { room = size-after; many = omega arith; words = λ h. absurd (omega arith) })
      (λ (le : m ≤ 16).
      let as-few : k ≡ m = omega arith in
      let same : ms ≡ ns =
      ap (map f) (begun ∙ ap (λ z. take z (lent ++ rest)) as-few ∙ ap (λ z. take m (z ++ rest)) all ∙ take-append-le m us rest (omega arith)) ∙ q.words le in
      let words-after : map f (held t) ≡ take 17 (names_after ns e) = after.words ∙ ap (λ z. take 17 (names_after z e)) same in
      let count-after : count ≡ min 17 (length (names_after ns e)) = held-count ∙ ap (λ z. min 17 (length (names_after z e))) same in
      record {
        room = size-after;
        many = omega arith;
        words = λ h.
            ap (map f) (take_at back (drop kept us) r (omega arith) ∙ copied ∙ take_all kept (held t) (omega arith)) ∙ words-after
            ∙ take_all 17 (names_after ns e) (omega arith);
      })
      (cases_lt 16 m)

-- a sequence, by what its table and its names were before they were lent
pub sequence-apart : {text : List ℕ} {base p n m c r : ℕ} {ws zs : List Node} {xs ys : Table Node} {us vs : List Span} {s t : Stack Span} {g : read.Got} → (A : in-table.Sequence text base p xs ys s t g)
    → xs.items.now ≡ ws → xs.count ≡ n → zs ≡ ys.items.now → c ≡ ys.count → ((e : Expr ℕ) → ((ns : List (List ℕ)) → in-stack.Knows text s ns → in-stack.Knows text t (names_after ns e)) → (ns : List (List ℕ)) → Knows text us m ns → Knows text vs r (names_after ns e))
    → Sequence text base p ws zs us vs n m (record { to = g.to; nodes = c; names = r; root = g.root; place = g.place; size = g.size })
sequence-apart {g = g} A ea en ez ec named =
    let P = A.parsed in
    let counted = P.measured.counted in
    record {
      parsed = record {
        tree = P.tree;
        reads = P.reads;
        built = record {
          place = P.built.place;
          kept = record { below = λ j i. ap (λ z. at z j) ez ∙ P.built.kept.below j (omega arith) ∙ ap (λ z. at z j) ea };
          held = λ room mem lies.
              let fits = ap length ez in
              subst (λ z. TreeAt mem z g.root P.tree) (sym ez) (P.built.held (omega arith) mem lies);
        };
        measured = record { counted = omega arith; sized = P.measured.sized; named = named P.tree P.measured.named };
      };
      calm = A.calm;
      last = A.last;
    }
