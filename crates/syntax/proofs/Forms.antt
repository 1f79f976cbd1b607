-- Each form of expression, from its parts.
use Rattle.std.proofs.Common.{◌≡◌, ℕ, suc, ◌+◌, ◌<◌, ◌≤◌, true, List, [], ◌∷◌, map, length, get_or, set, Some, sym, refl, ap, ◌∙◌, subst, arith, length-set}
use mathlib.Core.Option.{Option, none, some}
use Rattle.std.proofs.lemmas.List.{get_or-set_same}
use Rattle.lexer.specs.Token.{Terminal, identifier, keyword, symbol}
use Rattle.lexer.specs.Tokens.{Placed}
use Rattle.lexer.specs.declared.token.Keyword.{Keyword}
use Rattle.lexer.specs.declared.token.Symbol.{Symbol}
use Rattle.lexer.specs.declared.token.Keyword.TheVariants as word
use Rattle.lexer.specs.declared.token.Symbol.TheVariants as sign
use Rattle.text.specs.declared.span.Span.{Span}
use Rattle.text.specs.Memory.{Memory}
use Rattle.grammar.specs.Tree.{Expr, Args, Bare}
use Rattle.grammar.specs.Grammar.{level, item}
use Rattle.grammar.specs.Machine.{Target, write, target_of, Callee, call, Bracket, Context, State, step, run}
use Rattle.grammar.specs.Role.{role}
use Rattle.grammar.specs.Following.{First, Calm, Last, NoItem, IdleRole}
use Rattle.grammar.specs.Notes.{note_of, forget, forget_args, first, annotate}
use Rattle.grammar.specs.Measure.{nodes, count, names_after}
use Rattle.grammar.proofs.Steps.{goes, semicolon-goes, dot-goes, instance_of-goes, value-ends, rest-ends, calm-above, argument-begins, name-halts, only-halts, bracket-halts, want-halts}
use Rattle.nodes.specs.declared.node.Node.{Node}
use Rattle.nodes.specs.declared.node.Form.{Form}
use Rattle.nodes.specs.declared.node.Form.TheVariants as form
use Rattle.stack.specs.declared.Stack.{Stack}
use Rattle.syntax.specs.declared.table.Table.{Table}
use Rattle.syntax.specs.declared.read.Variable.{Variable}
use Rattle.syntax.specs.declared.read.Variable.TheVariants as variable
use Rattle.syntax.specs.declared.read.Got.{Got}
use Rattle.syntax.specs.declared.read.Given.{Given}
use Rattle.syntax.specs.declared.read.Size.{Size}
use Rattle.syntax.specs.declared.sight.Sort.{Sort}
use Rattle.syntax.specs.declared.sight.Sort.TheVariants as sort
use Rattle.syntax.specs.Left.{left, terms, places}
use Rattle.syntax.specs.Sight.{slice, head_sort}
use Rattle.nodes.specs.Trees.{Lies, span_of, WordAt, at, TreeAt, ArgsAt}
use Rattle.syntax.specs.declared.read.Target as declared
use Rattle.syntax.specs.Parsing.{Ahead, target_token, named, meant, Writes, IsTarget, NoWrite, written_form, learn_target, LearnsTarget, Reads, Kept, Parsed, Refused, Operand, Testing, Tested, Item, Sequence, Arguing, Argued, RefusedArgs, Moves, MovesArgs, Put, With, Closed}
use Rattle.syntax.specs.Sizes.{around, side_by_side, of_list, Knows, Sized}
use Rattle.syntax.proofs.Sizes.{around-sized, seq-sized, while-sized, if-sized, none-sized, nothing-sized, more-sized, list-sized, new-sized, invoke-sized}
use Rattle.syntax.proofs.Nodes.{kept-all, kept_then, kept_put, put-at, tree-kept, args-kept, args-below, args-set, word_at}
use Rattle.syntax.proofs.Reading.{Sees, roomy, never, not_first, no_name, terms-see, places-see, ahead_none, ahead-one, ahead-then, first-noted, noted-then, To, here, on, over, inside, lost, ends, note-if, note-while, note-seq, note-instance_of, note-invoke, note-new, note-set_local, note-set_field, note-first, note-more}

-- a token that has to come did not
abbrev pub Missing : List ℕ → ℕ → Sort → ℕ → Type 0
Missing text p s e = (e ≡ first (length text) (places text p)) × (head_sort (terms text p) ≡ Some s → ⊥)

-- an expression whose node was put last
abbrev pub made : {l : ℕ} {text : List ℕ} {base p to : ℕ} {xs ys zs : Table Node} {us vs : Stack Span} {x : Node} {size : Size} {g : Got} (tree : Expr ℕ)
    → Put ys zs x to size g → Reads l text p to tree → x.place ≡ note_of tree → Kept xs ys → xs.count ≤ ys.count
    → suc ys.count ≡ xs.count + nodes tree → Sized size tree → ((ns : List (List ℕ)) → Knows text us ns → Knows text vs (names_after ns tree))
    → ((mem : Memory) → Lies mem text base → Kept ys zs → ys.count < length ys.items.now → at zs.items.now ys.count ≡ x → TreeAt mem zs.items.now ys.count tree) → Parsed l text base p xs zs us vs g
made {l} {text} {base} {p} {to} {xs} {ys} {zs} {us} {vs} {x} {size} {g} tree put r e k h many sized named held =
    let kept = kept_put put in
    record {
      tree = tree;
      reads = subst (λ q. Reads l text p q tree) (sym put.to_is) r;
      built = record {
        place = put.place ∙ e;
        kept = kept_then k kept h;
        held = λ room mem lies.
            let lt : ys.count < length ys.items.now = omega (arith, put.counted, kept.room) in
            subst (λ i. TreeAt mem zs.items.now i tree) (sym put.root) (held mem lies kept lt (put-at put lt));
      };
      measured = record {
        counted = omega (arith, put.counted, many);
        sized = subst (λ z. Sized z tree) (sym put.size_is) sized;
        named = named;
      };
    }

-- the conditional
module _ {text : List ℕ} {p f q : ℕ} (s : Sees text p (keyword word.If) f q) where
  if-begun : To text p q (λ k. State.want (Context.within Bracket.condition k))
  if-begun = on (λ k. State.want (Context.within Bracket.condition k)) here s (λ k. refl)

  pub condition-lost : {e : ℕ} → Refused 4 text q e → Refused 1 text p e
  condition-lost r = lost Bracket.condition if-begun r 1

  module _ {base : ℕ} {x0 x1 : Table Node} {u0 u1 : Stack Span} {a : Got} (A : Sequence text base q x0 x1 u0 u1 a) where
    condition-read : To text p a.to (λ k. State.have (forget A.parsed.tree) (Context.within Bracket.condition k))
    condition-read = inside Bracket.condition if-begun A.parsed.reads

    pub then-lost : {e : ℕ} → Missing text a.to (sort.Word word.Then) e → Refused 1 text p e
    then-lost h = ends condition-read (λ k. bracket-halts Bracket.condition _ k _ A.calm A.last (not_first _ (keyword word.Then) h.1)) h.0 1

    module _ {fa ta : ℕ} (sa : Sees text a.to (keyword word.Then) fa ta) where
      then-read : To text p ta (λ k. State.want (Context.within (Bracket.consequent (forget A.parsed.tree)) k))
      then-read = on (λ k. State.want (Context.within (Bracket.consequent (forget A.parsed.tree)) k)) condition-read sa (λ k. refl)

      pub consequent-lost : {e : ℕ} → Refused 4 text ta e → Refused 1 text p e
      consequent-lost r = lost (Bracket.consequent (forget A.parsed.tree)) then-read r 1

      module _ {x2 : Table Node} {u2 : Stack Span} {b : Got} (B : Sequence text base ta x1 x2 u1 u2 b) where
        consequent-read : To text p b.to (λ k. State.have (forget B.parsed.tree) (Context.within (Bracket.consequent (forget A.parsed.tree)) k))
        consequent-read = inside (Bracket.consequent (forget A.parsed.tree)) then-read B.parsed.reads

        pub else-lost : {e : ℕ} → Missing text b.to (sort.Word word.Else) e → Refused 1 text p e
        else-lost h =
            ends consequent-read (λ k. bracket-halts (Bracket.consequent (forget A.parsed.tree)) _ k _ B.calm B.last (not_first _ (keyword word.Else) h.1)) h.0 1

        module _ {fb tb : ℕ} (sb : Sees text b.to (keyword word.Else) fb tb) where
          else-read : To text p tb (λ k. State.want (Context.within (Bracket.alternative (forget A.parsed.tree) (forget B.parsed.tree)) k))
          else-read = on (λ k. State.want (Context.within (Bracket.alternative (forget A.parsed.tree) (forget B.parsed.tree)) k)) consequent-read sb (λ k. refl)

          pub alternative-lost : {e : ℕ} → Refused 4 text tb e → Refused 1 text p e
          alternative-lost r = lost (Bracket.alternative (forget A.parsed.tree) (forget B.parsed.tree)) else-read r 1

          module _ {x3 : Table Node} {u3 : Stack Span} {c : Got} (C : Sequence text base tb x2 x3 u2 u3 c) where
            alternative-read : To text p c.to (λ k. State.have (forget C.parsed.tree) (Context.within (Bracket.alternative (forget A.parsed.tree) (forget B.parsed.tree)) k))
            alternative-read = inside (Bracket.alternative (forget A.parsed.tree) (forget B.parsed.tree)) else-read C.parsed.reads

            pub if-end-lost : {e : ℕ} → Missing text c.to (sort.Word word.End) e → Refused 1 text p e
            if-end-lost h =
                ends alternative-read
                (λ k. bracket-halts (Bracket.alternative (forget A.parsed.tree) (forget B.parsed.tree)) _ k _ C.calm C.last (not_first _ (keyword word.End) h.1)) h.0 1

            pub if-made : {fc tc : ℕ} {zs : Table Node} {size : Size} {g : Got} → Sees text c.to (keyword word.End) fc tc
                → Put x3 zs (record { place = f; form = form.If a.root b.root c.root }) tc size g
                → Moves text q x0 x1 a → Moves text ta x1 x2 b → Moves text tb x2 x3 c
                → size ≡ around (side_by_side a.size (side_by_side b.size c.size)) → Parsed 1 text base p x0 zs u0 u3 g
            if-made {fc} {tc} {zs} sc put ma mb mc sz =
                let ta' = A.parsed.tree in
                let tb' = B.parsed.tree in
                let tc' = C.parsed.tree in
                let T : Expr ℕ = Expr.if_then_else f ta' tb' tc' in
                let done : To text p tc (λ k. State.have (forget T) k) = on (λ k. State.have (forget T) k) alternative-read sc (λ k. refl) in
                let kbc : Kept x1 x3 = kept_then B.parsed.built.kept C.parsed.built.kept (omega arith) in
                made T put
                (record {
                  low = omega arith;
                  way = λ k h. done.way k;
                  noted = ap (annotate 0 (forget T)) (places-see s)
                      ∙ note-if f _ _ _ ta' tb' tc' fa fb fc _ _ _ _ (noted-then A.parsed.reads sa) (noted-then B.parsed.reads sb) (noted-then C.parsed.reads sc);
                  plain = λ t i. let z : ◌≡◌ {A = ℕ} 0 1 = cc in never z;
                  ahead = done.ahead;
                })
                refl (kept_then A.parsed.built.kept kbc (omega arith)) (omega arith)
                (omega (arith, A.parsed.measured.counted, B.parsed.measured.counted, C.parsed.measured.counted))
                (if-sized f ta' tb' tc' sz A.parsed.measured.sized B.parsed.measured.sized C.parsed.measured.sized)
                (λ ns k. C.parsed.measured.named _ (B.parsed.measured.named _ (A.parsed.measured.named ns k)))
                (λ mem lies kz lt is. (
                  a.root,
                  b.root,
                  c.root,
                  is,
                  omega arith,
                  tree-kept mem ta' a.root (kept_then kbc kz (omega arith)) (omega arith) (A.parsed.built.held (omega (arith, kbc.room)) mem lies),
                  omega arith,
                  tree-kept mem tb' b.root (kept_then C.parsed.built.kept kz (omega arith)) (omega arith) (B.parsed.built.held (omega (arith, C.parsed.built.kept.room)) mem lies),
                  omega arith,
                  tree-kept mem tc' c.root kz (omega arith) (C.parsed.built.held (omega arith) mem lies),
                ))

-- the loop
module _ {text : List ℕ} {p f q : ℕ} (s : Sees text p (keyword word.While) f q) where
  while-begun : To text p q (λ k. State.want (Context.within Bracket.guard k))
  while-begun = on (λ k. State.want (Context.within Bracket.guard k)) here s (λ k. refl)

  pub guard-lost : {e : ℕ} → Refused 4 text q e → Refused 1 text p e
  guard-lost r = lost Bracket.guard while-begun r 1

  module _ {base : ℕ} {x0 x1 : Table Node} {u0 u1 : Stack Span} {a : Got} (A : Sequence text base q x0 x1 u0 u1 a) where
    guard-read : To text p a.to (λ k. State.have (forget A.parsed.tree) (Context.within Bracket.guard k))
    guard-read = inside Bracket.guard while-begun A.parsed.reads

    pub do-lost : {e : ℕ} → Missing text a.to (sort.Word word.Do) e → Refused 1 text p e
    do-lost h = ends guard-read (λ k. bracket-halts Bracket.guard _ k _ A.calm A.last (not_first _ (keyword word.Do) h.1)) h.0 1

    module _ {fa ta : ℕ} (sa : Sees text a.to (keyword word.Do) fa ta) where
      do-read : To text p ta (λ k. State.want (Context.within (Bracket.loop (forget A.parsed.tree)) k))
      do-read = on (λ k. State.want (Context.within (Bracket.loop (forget A.parsed.tree)) k)) guard-read sa (λ k. refl)

      pub loop-lost : {e : ℕ} → Refused 4 text ta e → Refused 1 text p e
      loop-lost r = lost (Bracket.loop (forget A.parsed.tree)) do-read r 1

      module _ {x2 : Table Node} {u2 : Stack Span} {b : Got} (B : Sequence text base ta x1 x2 u1 u2 b) where
        loop-read : To text p b.to (λ k. State.have (forget B.parsed.tree) (Context.within (Bracket.loop (forget A.parsed.tree)) k))
        loop-read = inside (Bracket.loop (forget A.parsed.tree)) do-read B.parsed.reads

        pub while-end-lost : {e : ℕ} → Missing text b.to (sort.Word word.End) e → Refused 1 text p e
        while-end-lost h =
            ends loop-read (λ k. bracket-halts (Bracket.loop (forget A.parsed.tree)) _ k _ B.calm B.last (not_first _ (keyword word.End) h.1)) h.0 1

        pub while-made : {fb tb : ℕ} {zs : Table Node} {size : Size} {g : Got} → Sees text b.to (keyword word.End) fb tb
            → Put x2 zs (record { place = f; form = form.While a.root b.root }) tb size g
            → Moves text q x0 x1 a → Moves text ta x1 x2 b
            → size ≡ around (side_by_side a.size b.size) → Parsed 1 text base p x0 zs u0 u2 g
        while-made {fb} {tb} {zs} sb put ma mb sz =
            let ta' = A.parsed.tree in
            let tb' = B.parsed.tree in
            let T : Expr ℕ = Expr.while_do f ta' tb' in
            let done : To text p tb (λ k. State.have (forget T) k) = on (λ k. State.have (forget T) k) loop-read sb (λ k. refl) in
            made T put
            (record {
              low = omega arith;
              way = λ k h. done.way k;
              noted = ap (annotate 0 (forget T)) (places-see s)
                  ∙ note-while f _ _ ta' tb' fa fb _ _ _ (noted-then A.parsed.reads sa) (noted-then B.parsed.reads sb);
              plain = λ t i. let z : ◌≡◌ {A = ℕ} 0 1 = cc in never z;
              ahead = done.ahead;
            })
            refl (kept_then A.parsed.built.kept B.parsed.built.kept (omega arith)) (omega arith)
            (omega (arith, A.parsed.measured.counted, B.parsed.measured.counted)) (while-sized f ta' tb' sz A.parsed.measured.sized B.parsed.measured.sized)
            (λ ns k. B.parsed.measured.named _ (A.parsed.measured.named ns k))
            (λ mem lies kz lt is. (
              a.root,
              b.root,
              is,
              omega arith,
              tree-kept mem ta' a.root (kept_then B.parsed.built.kept kz (omega arith)) (omega arith) (A.parsed.built.held (omega (arith, B.parsed.built.kept.room)) mem lies),
              omega arith,
              tree-kept mem tb' b.root kz (omega arith) (B.parsed.built.held (omega arith) mem lies),
            ))

-- the span of a word that was seen
pub word-seen : {text : List ℕ} {sp : Span} (base from to : ℕ) → sp ≡ span_of base from to → from ≤ to → to ≤ length text → (mem : Memory) → Lies mem text base → WordAt mem sp (slice text from to)
word-seen {text} base from to e h g mem lies = subst (λ s. WordAt mem s (slice text from to)) (sym e) (word_at mem text base from to lies h g)

-- the creation of an object
module _ {text : List ℕ} {p f q : ℕ} (s : Sees text p (keyword word.New) f q) where
  new-begun : To text p q (λ k. State.newed k)
  new-begun = on (λ k. State.newed k) here s (λ k. refl)

  pub class-lost : {e : ℕ} → Missing text q sort.Name e → Refused 1 text p e
  class-lost h = ends new-begun (λ k. name-halts (State.newed k) (λ c. State.named (Callee.new c) k) _ (λ ρ. refl) refl (no_name _ h.1)) h.0 1

  module _ {from to : ℕ} (sn : Sees text q (identifier (slice text from to)) from to) where
    class-read : To text p to (λ k. State.named (Callee.new (slice text from to)) k)
    class-read = on (λ k. State.named (Callee.new (slice text from to)) k) new-begun sn (λ k. refl)

    pub new-open-lost : {e : ℕ} → Missing text to (sort.Sign sign.OpenParen) e → Refused 1 text p e
    new-open-lost h =
        ends class-read
        (λ k. only-halts (State.named (Callee.new (slice text from to)) k) Rattle.grammar.specs.Role.Stop.open' (State.opened (Callee.new (slice text from to)) k) _ (λ ρ. refl) refl (not_first _ (symbol sign.OpenParen) h.1))
        h.0 1

    module _ {fo r : ℕ} (so : Sees text to (symbol sign.OpenParen) fo r) where
      new-open-read : To text p r (λ k. State.opened (Callee.new (slice text from to)) k)
      new-open-read = on (λ k. State.opened (Callee.new (slice text from to)) k) class-read so (λ k. refl)

      pub new-args-lost : {e : ℕ} → RefusedArgs text r e → Refused 1 text p e
      new-args-lost x =
          record { from = x.from; ahead = ahead-then new-open-read.ahead x.ahead; place = x.place; way = λ k h. new-open-read.way k ∙ x.way (Callee.new (slice text from to)) k }

      pub new-made : {base : ℕ} {sp : Span} {x0 x1 zs : Table Node} {u0 u1 : Stack Span} {b : Given} {size : Size} {g : Got} → (B : Argued text base r x0 x1 u0 u1 b)
          → Put x1 zs (record { place = f; form = form.New sp b.arguments }) b.to size g
          → sp ≡ span_of base from to → MovesArgs text r x0 x1 b → from < to → to ≤ length text → size ≡ around b.size → Parsed 1 text base p x0 zs u0 u1 g
      new-made {base} {sp} {x0} {x1} {zs} {b = b} B put es mb lt le sz =
          let T : Expr ℕ = Expr.new f (slice text from to) B.args in
          made T put
          (record {
            low = omega arith;
            way = λ k h. new-open-read.way k ∙ B.way (Callee.new (slice text from to)) k;
            noted = ap (annotate 0 (forget T)) (places-see s ∙ ap (λ z. f ∷ z) (places-see sn ∙ ap (λ z. from ∷ z) (places-see so)))
                ∙ note-new f _ _ B.args from fo B.closed _ _ B.noted;
            plain = λ t i. let z : ◌≡◌ {A = ℕ} 0 1 = cc in never z;
            ahead = ahead-then new-open-read.ahead B.ahead;
          })
          refl B.stored.kept mb.more
          (omega (arith, B.measured.counted)) (new-sized f (slice text from to) B.args sz B.measured.sized) B.measured.named
          (λ mem lies kz h is. (
            _,
            b.arguments,
            is,
            word-seen base from to es (omega arith) le mem lies,
            B.stored.many,
            args-kept mem B.args _ b.arguments.roots kz (omega arith) (B.stored.held (omega arith) mem lies),
          ))

-- a sequence
pub seq-made : {text : List ℕ} {base p fa ta : ℕ} {x0 x1 x2 zs : Table Node} {u0 u1 u2 : Stack Span} {a b g : Got} {size : Size}
    (A : Item text base p x0 x1 u0 u1 a) → Sees text a.to (symbol sign.Semicolon) fa ta → (B : Sequence text base ta x1 x2 u1 u2 b)
    → Put x2 zs (record { place = a.place; form = form.Seq a.root b.root }) b.to size g
    → Moves text p x0 x1 a → Moves text ta x1 x2 b → size ≡ side_by_side a.size b.size → Sequence text base p x0 zs u0 u2 g
seq-made {text} {base} {p} {fa} {ta} {x0} {x1} {x2} {zs} {a = a} {b = b} A sa B put ma mb sz =
    let ea = A.parsed.tree in
    let eb = B.parsed.tree in
    let T : Expr ℕ = Expr.seq (note_of ea) ea eb in
    record {
      parsed = made T put
          (record {
            low = omega arith;
            way = λ k h. A.parsed.reads.way k (omega arith) ∙ ap (λ z. run z (State.have (forget ea) k)) (terms-see sa) ∙ semicolon-goes (forget ea) k (terms text ta) h
                ∙ B.parsed.reads.way (Context.rest (forget ea) k) (omega arith) ∙ rest-ends (forget ea) (forget eb) k (terms text b.to) B.calm B.last;
            noted = note-seq (note_of ea) (forget ea) (forget eb) ea eb fa _ _ _ (first-noted A.parsed.reads) (noted-then A.parsed.reads sa) B.parsed.reads.noted;
            plain = λ t i. let z : ◌≡◌ {A = ℕ} 0 1 = cc in never z;
            ahead = ahead-then A.parsed.reads.ahead (ahead-then (ahead-one sa) B.parsed.reads.ahead);
          })
          A.parsed.built.place (kept_then A.parsed.built.kept B.parsed.built.kept (omega arith)) (omega arith)
          (omega (arith, A.parsed.measured.counted, B.parsed.measured.counted)) (seq-sized (note_of ea) ea eb sz A.parsed.measured.sized B.parsed.measured.sized)
          (λ ns k. B.parsed.measured.named _ (A.parsed.measured.named ns k))
          (λ mem lies kz lt is. (
            a.root,
            b.root,
            is ∙ ap (λ z. record { place = z; form = form.Seq a.root b.root }) A.parsed.built.place,
            omega arith,
            tree-kept mem ea a.root (kept_then B.parsed.built.kept kz (omega arith)) (omega arith) (A.parsed.built.held (omega (arith, B.parsed.built.kept.room)) mem lies),
            omega arith,
            tree-kept mem eb b.root kz (omega arith) (B.parsed.built.held (omega arith) mem lies),
          ));
      calm = calm-above (forget T) _ (omega arith) refl;
      last = subst (λ z. Last (terms text z)) (sym put.to_is) B.last;
    }

pub seq-lost : {text : List ℕ} {base p fa ta e : ℕ} {x0 x1 : Table Node} {u0 u1 : Stack Span} {a : Got}
    (A : Item text base p x0 x1 u0 u1 a) → Sees text a.to (symbol sign.Semicolon) fa ta → Refused 4 text ta e → Refused 4 text p e
seq-lost {text} {ta = ta} A sa r =
    let ea = A.parsed.tree in
    record {
      from = r.from;
      ahead = ahead-then A.parsed.reads.ahead (ahead-then (ahead-one sa) r.ahead);
      place = r.place;
      way = λ k h. A.parsed.reads.way k (omega arith) ∙ ap (λ z. run z (State.have (forget ea) k)) (terms-see sa) ∙ semicolon-goes (forget ea) k (terms text ta) h
          ∙ r.way (Context.rest (forget ea) k) (omega arith);
    }

abbrev pub wider : {l : ℕ} {text : List ℕ} {base p : ℕ} {xs ys : Table Node} {us vs : Stack Span} {g : Got} (l' : ℕ) → l ≤ l' → l ≤ 3 → Parsed l text base p xs ys us vs g → Parsed l' text base p xs ys us vs g
wider l' h i P =
    let r = P.reads in
    record {
      tree = P.tree;
      reads = record { low = omega (arith, r.low); way = λ k j. let w = roomy k in r.way k (omega arith); noted = r.noted; plain = r.plain; ahead = r.ahead };
      built = P.built;
      measured = P.measured;
    }

pub seq-item : {text : List ℕ} {base p : ℕ} {xs ys : Table Node} {us vs : Stack Span} {g : Got} → Item text base p xs ys us vs g → (head_sort (terms text g.to) ≡ Some (sort.Sign sign.Semicolon) → ⊥) → Sequence text base p xs ys us vs g
seq-item i h = record { parsed = wider 4 (omega arith) (omega arith) i.parsed; calm = i.calm; last = not_first _ (symbol sign.Semicolon) h }

-- a write
abbrev pub write_of : ℕ → Target → Expr ℕ → Expr ℕ
write_of f (Target.local x) e = Expr.set_local f x e
write_of f (Target.field x) e = Expr.set_field f x e

-- the word that a target is named by
abbrev pub target_word : Target → List ℕ
target_word (Target.local x) = x
target_word (Target.field x) = x

forget-write : (f : ℕ) (t : Target) (e : Expr ℕ) → forget (write_of f t e) ≡ write t (forget e)
forget-write f (Target.local x) e = refl
forget-write f (Target.field x) e = refl

write-level : (t : Target) (f : ℕ) (e : Expr ℕ) → level (forget (write_of f t e)) ≡ item
write-level (Target.local x) f e = refl
write-level (Target.field x) f e = refl

write-no-target : (t : Target) (f : ℕ) (e : Expr ℕ) → target_of (forget (write_of f t e)) ≡ none
write-no-target (Target.local x) f e = refl
write-no-target (Target.field x) f e = refl

write-noted : (t : Target) (f f1 : ℕ) (e : Expr ℕ) (n1 n2 : List ℕ) → annotate 0 (forget e) n1 ≡ record { tree = e; rest = n2 }
    → annotate 0 (forget (write_of f t e)) (f ∷ f1 ∷ n1) ≡ record { tree = write_of f t e; rest = n2 }
write-noted (Target.local x) f f1 e n1 n2 p = note-set_local f x (forget e) e f1 n1 n2 p
write-noted (Target.field x) f f1 e n1 n2 p = note-set_field f x (forget e) e f1 n1 n2 p

write-place : (t : Target) (f : ℕ) (e : Expr ℕ) → f ≡ note_of (write_of f t e)
write-place (Target.local x) f e = refl
write-place (Target.field x) f e = refl

write-held : (b : Variable) (x : List ℕ) (mem : Memory) (zs : List Node) (i f : ℕ) (s : Span) (j : ℕ) (e : Expr ℕ) → at zs i ≡ record { place = f; form = written_form b s j } → WordAt mem s x → j < i → TreeAt mem zs j e → TreeAt mem zs i (write_of f (named b x) e)
write-held variable.Local x mem zs i f s j e is w h t = (s, j, is, w, h, t)
write-held variable.Field x mem zs i f s j e is w h t = (s, j, is, w, h, t)

write-nodes : (t : Target) (f : ℕ) (e : Expr ℕ) → nodes (write_of f t e) ≡ suc (nodes e)
write-nodes (Target.local x) f e = refl
write-nodes (Target.field x) f e = refl

write-sized : {r s : Size} (t : Target) (f : ℕ) (e : Expr ℕ) → s ≡ around r → Sized r e → Sized s (write_of f t e)
write-sized (Target.local x) f e h z =
    around-sized e (Expr.set_local f x e) h z refl (λ k. record { integers = k.integers; strings = k.strings; arguments = k.arguments }) (λ k. record { integers = k.integers; strings = k.strings; arguments = k.arguments })
write-sized (Target.field x) f e h z =
    around-sized e (Expr.set_field f x e) h z refl (λ k. record { integers = k.integers; strings = k.strings; arguments = k.arguments }) (λ k. record { integers = k.integers; strings = k.strings; arguments = k.arguments })

write-names : (t : Target) (f : ℕ) (ns : List (List ℕ)) (e : Expr ℕ) → names_after ns (write_of f t e) ≡ names_after (learn_target ns t) e
write-names (Target.local x) f ns e = refl
write-names (Target.field x) f ns e = refl

abbrev target_tree : Target → Bare
target_tree (Target.local x) = Expr.local tt x
target_tree (Target.field x) = Expr.field tt x

target-begins : (t : Target) (k : Context) → step (State.want k) (target_token t) ≡ some (State.have (target_tree t) k)
target-begins (Target.local x) k = refl
target-begins (Target.field x) k = refl

equals-goes : (t : Target) (k : Context) → step (State.have (target_tree t) k) (symbol sign.Equals) ≡ some (State.want (Context.value t k))
equals-goes (Target.local x) k = refl
equals-goes (Target.field x) k = refl

module _ {text : List ℕ} {p : ℕ} {t : declared.Target} (w : Writes text p t) where
  seen-target : Sees text p (target_token (meant text t)) t.from t.to
  seen-target = record { is = w.target }

  seen-equals : Sees text t.to (symbol sign.Equals) w.place t.value
  seen-equals = record { is = w.equals }

  value-wanted : To text p t.value (λ k. State.want (Context.value (meant text t) k))
  value-wanted =
      on (λ k. State.want (Context.value (meant text t) k)) (on (λ k. State.have (target_tree (meant text t)) k) here seen-target (target-begins (meant text t))) seen-equals
      (equals-goes (meant text t))

  pub set-lost : {e : ℕ} → Refused 3 text t.value e → Refused 3 text p e
  set-lost r =
      record { from = r.from; ahead = ahead-then value-wanted.ahead r.ahead; place = r.place; way = λ k h. value-wanted.way k ∙ r.way (Context.value (meant text t) k) (omega arith) }

  pub set-made : {base : ℕ} {x0 x1 zs : Table Node} {u0 u1 u2 : Stack Span} {e g : Got} {size : Size} {x : Form} → (E : Item text base t.value x0 x1 u1 u2 e)
      → Put x1 zs (record { place = t.from; form = x }) e.to size g
      → x ≡ written_form t.variable (span_of base t.from t.to) e.root → Moves text t.value x0 x1 e → t.from < t.to → t.to ≤ length text
      → size ≡ around e.size → LearnsTarget text u0 u1 (meant text t) → Item text base p x0 zs u0 u2 g
  set-made {base} {x0} {x1} {zs} {e = e} E put ef me lt le sz ln =
      let x = E.parsed.tree in
      let T : Expr ℕ = write_of t.from (meant text t) x in
      let lev = write-level (meant text t) t.from x in
      record {
        parsed = made T put
            (record {
              low = omega (arith, lev);
              way = λ k h. value-wanted.way k ∙ E.parsed.reads.way (Context.value (meant text t) k) (omega arith) ∙ value-ends (meant text t) (forget x) k (terms text e.to) E.calm
                  ∙ ap (λ z. run (terms text e.to) (State.have z k)) (sym (forget-write t.from (meant text t) x));
              noted = ap (annotate 0 (forget T)) (places-see seen-target ∙ ap (λ z. t.from ∷ z) (places-see seen-equals)) ∙ write-noted (meant text t) t.from w.place x _ _ E.parsed.reads.noted;
              plain = λ s i. let q = write-no-target (meant text t) t.from x in let z : ◌≡◌ {A = ℕ} 0 1 = cc in never z;
              ahead = ahead-then value-wanted.ahead E.parsed.reads.ahead;
            })
            (write-place (meant text t) t.from x) E.parsed.built.kept (omega arith)
            (omega (arith, E.parsed.measured.counted, write-nodes (meant text t) t.from x)) (write-sized (meant text t) t.from x sz E.parsed.measured.sized)
            (λ ns k. subst (Knows text _) (sym (write-names (meant text t) t.from ns x)) (E.parsed.measured.named _ (ln.learns ns k)))
            (λ mem lies kz h is.
            write-held t.variable (slice text t.from t.to) mem zs.items.now _ t.from (span_of base t.from t.to) e.root x (is ∙ ap (λ z. record { place = t.from; form = z }) ef) (word-seen base t.from t.to refl (omega arith) le mem lies) me.root
            (tree-kept mem x e.root kz me.root (E.parsed.built.held (omega arith) mem lies)));
        calm = calm-above (forget T) _ (omega (arith, lev)) (write-no-target (meant text t) t.from x);
      }

-- where no write begins, an item is a test
no_target : (e : Bare) (r s : List Terminal) → ((t : Target) → target_of e ≡ some t → s ≡ target_token t ∷ r) → NoWrite s → First (symbol sign.Equals) r → target_of e ≡ none
no_target e r s plain h f = go (target_of e) refl
  where
    is-target : (t : Target) → IsTarget (target_token t)
    is-target (Target.local x) = tt
    is-target (Target.field x) = tt

    go : (o : Option Target) → target_of e ≡ o → o ≡ none
    go none q = refl
    go (some t) q = absurd (subst NoWrite (plain t q) h (is-target t) f)

pub item-test : {text : List ℕ} {base p : ℕ} {xs ys : Table Node} {us vs : Stack Span} {g : Got} → Tested text base p xs ys us vs g → NoWrite (terms text p) → Item text base p xs ys us vs g
item-test {text} {p = p} {g = g} t h =
    record {
      parsed = wider 3 (omega arith) (omega arith) t.testing.parsed;
      calm = record {
        equals = no_target _ (terms text g.to) (terms text p) t.testing.parsed.reads.plain h;
        dot = t.testing.dot;
        instance_of = λ f. absurd (t.no_test f);
      };
    }

-- a test of an operand's class
module _ {text : List ℕ} {base p : ℕ} {x0 x1 : Table Node} {u0 u1 : Stack Span} {a : Got} (A : Parsed 2 text base p x0 x1 u0 u1 a)
    {fa ta : ℕ} (sa : Sees text a.to (keyword word.InstanceOf) fa ta) where
  tested-read : To text p ta (λ k. State.tested (forget A.tree) k)
  tested-read =
      let w = over (omega arith) A.reads in
      record {
        ahead = ahead-then w.ahead (ahead-one sa);
        way = λ k. w.way k ∙ ap (λ z. run z (State.have (forget A.tree) k)) (terms-see sa) ∙ instance_of-goes (forget A.tree) k (terms text ta) A.reads.low;
      }

  pub test-class-lost : {e : ℕ} → Missing text ta sort.Name e → Refused 2 text p e
  test-class-lost h = ends tested-read (λ k. name-halts (State.tested (forget A.tree) k) (λ c. State.have (Expr.instance_of tt (forget A.tree) c) k) _ (λ ρ. refl) refl (no_name _ h.1)) h.0 2

  pub test-made : {from to : ℕ} {sp : Span} {zs : Table Node} {g : Got} {size : Size} → Sees text ta (identifier (slice text from to)) from to
      → Put x1 zs (record { place = a.place; form = form.InstanceOf a.root sp }) to size g
      → sp ≡ span_of base from to → Moves text p x0 x1 a → from < to → to ≤ length text → size ≡ around a.size → Testing text base p x0 zs u0 u1 g
  test-made {from} {to} {sp} sn put es ma lt le sz =
      let x = A.tree in
      let T : Expr ℕ = Expr.instance_of (note_of x) x (slice text from to) in
      let done : To text p to (λ k. State.have (forget T) k) = on (λ k. State.have (forget T) k) tested-read sn (λ k. refl) in
      record {
        parsed = made T put
            (record {
              low = omega arith;
              way = λ k h. done.way k;
              noted = note-instance_of (note_of x) (forget x) x (slice text from to) fa from _ _ (first-noted A.reads)
                  (noted-then A.reads sa ∙ ap (λ z. record { tree = x; rest = fa ∷ z }) (places-see sn));
              plain = λ t i. let z : ◌≡◌ {A = ℕ} 0 1 = cc in never z;
              ahead = done.ahead;
            })
            A.built.place A.built.kept (omega arith)
            (omega (arith, A.measured.counted))
            (around-sized x T sz A.measured.sized refl (λ k. record { integers = k.integers; strings = k.strings; arguments = k.arguments }) (λ k. record { integers = k.integers; strings = k.strings; arguments = k.arguments }))
            A.measured.named
            (λ mem lies kz h is. (
              a.root,
              _,
              is ∙ ap (λ z. record { place = z; form = form.InstanceOf a.root sp }) A.built.place,
              word-seen base from to es (omega arith) le mem lies,
              ma.root,
              tree-kept mem x a.root kz ma.root (A.built.held (omega arith) mem lies),
            ));
        dot = λ _. omega arith;
      }

-- over the loop of tests
pub testing : {text : List ℕ} {base p : ℕ} {x0 x1 : Table Node} {u0 u1 : Stack Span} {g : Got} → Operand text base p x0 x1 u0 u1 g → Testing text base p x0 x1 u0 u1 g
testing A = record { parsed = wider 2 (omega arith) (omega arith) A.parsed; dot = λ f. absurd (A.no-dot f) }

-- a call, token by token
module _ {text : List ℕ} {base p : ℕ} {x0 x1 : Table Node} {u0 u1 : Stack Span} {a : Got} (A : Parsed 1 text base p x0 x1 u0 u1 a)
    {fa ta : ℕ} (sa : Sees text a.to (symbol sign.Dot) fa ta) where
  dot-read : To text p ta (λ k. State.dotted (forget A.tree) k)
  dot-read =
      let w = over (omega arith) A.reads in
      record {
        ahead = ahead-then w.ahead (ahead-one sa);
        way = λ k. w.way k ∙ ap (λ z. run z (State.have (forget A.tree) k)) (terms-see sa) ∙ dot-goes (forget A.tree) k (terms text ta) A.reads.low;
      }

  pub method-lost : {e : ℕ} → Missing text ta sort.Name e → Refused 1 text p e
  method-lost h = ends dot-read (λ k. name-halts (State.dotted (forget A.tree) k) (λ c. State.named (Callee.method (forget A.tree) c) k) _ (λ ρ. refl) refl (no_name _ h.1)) h.0 1

  module _ {from to : ℕ} (sn : Sees text ta (identifier (slice text from to)) from to) where
    callee : Callee
    callee = Callee.method (forget A.tree) (slice text from to)

    method-read : To text p to (λ k. State.named callee k)
    unfolding callee
    method-read = on (λ k. State.named callee k) dot-read sn (λ k. refl)

    pub call-open-lost : {e : ℕ} → Missing text to (sort.Sign sign.OpenParen) e → Refused 1 text p e
    call-open-lost h =
        ends method-read (λ k. only-halts (State.named callee k) Rattle.grammar.specs.Role.Stop.open' (State.opened callee k) _ (λ ρ. refl) refl (not_first _ (symbol sign.OpenParen) h.1)) h.0 1

    module _ {fo r : ℕ} (so : Sees text to (symbol sign.OpenParen) fo r) where
      call-open-read : To text p r (λ k. State.opened callee k)
      call-open-read = on (λ k. State.opened callee k) method-read so (λ k. refl)

      pub call-args-lost : {e : ℕ} → RefusedArgs text r e → Refused 1 text p e
      call-args-lost x =
          record { from = x.from; ahead = ahead-then call-open-read.ahead x.ahead; place = x.place; way = λ k h. call-open-read.way k ∙ x.way callee k }

      pub call-made : {sp : Span} {x2 zs : Table Node} {u2 : Stack Span} {b : Given} {size : Size} {g : Got} → (B : Argued text base r x1 x2 u1 u2 b)
          → Put x2 zs (record { place = a.place; form = form.Invoke a.root sp b.arguments }) b.to size g
          → sp ≡ span_of base from to → Moves text p x0 x1 a → MovesArgs text r x1 x2 b → from < to → to ≤ length text
          → size ≡ around (side_by_side a.size b.size) → Parsed 1 text base p x0 zs u0 u2 g
      unfolding callee
      call-made {sp} {x2} {zs} {b = b} B put es ma mb lt le sz =
          let x = A.tree in
          let T : Expr ℕ = Expr.invoke (note_of x) x (slice text from to) B.args in
          made T put
          (record {
            low = omega arith;
            way = λ k h. call-open-read.way k ∙ B.way callee k;
            noted = note-invoke (note_of x) (forget x) x (slice text from to) (forget_args B.args) B.args fa from fo B.closed _ _ _ (first-noted A.reads)
                (noted-then A.reads sa ∙ ap (λ z. record { tree = x; rest = fa ∷ z }) (places-see sn ∙ ap (λ z. from ∷ z) (places-see so))) B.noted;
            plain = λ t i. let z : ◌≡◌ {A = ℕ} 0 1 = cc in never z;
            ahead = ahead-then call-open-read.ahead B.ahead;
          })
          A.built.place (kept_then A.built.kept B.stored.kept (omega arith)) (omega arith)
          (omega (arith, A.measured.counted, B.measured.counted)) (invoke-sized (note_of x) x (slice text from to) B.args sz A.measured.sized B.measured.sized)
          (λ ns k. B.measured.named _ (A.measured.named ns k))
          (λ mem lies kz h is. (
            a.root,
            _,
            b.arguments,
            is ∙ ap (λ z. record { place = z; form = form.Invoke a.root sp b.arguments }) A.built.place,
            word-seen base from to es (omega arith) le mem lies,
            omega arith,
            tree-kept mem x a.root (kept_then B.stored.kept kz (omega arith)) ma.root (A.built.held (omega (arith, B.stored.kept.room)) mem lies),
            B.stored.many,
            args-kept mem B.args _ b.arguments.roots kz (omega arith) (B.stored.held (omega arith) mem lies),
          ))

-- no arguments
pub none_made : {text : List ℕ} {base p f q : ℕ} {xs : Table Node} {us : Stack Span} {a g : Given} → Sees text p (symbol sign.CloseParen) f q
    → a ≡ record { to = p; arguments = record { count = 0; roots = 0 ∷ 0 ∷ 0 ∷ 0 ∷ [] }; size = record { depth = 0; small = true } } → Closed a q g → Argued text base p xs xs us us g
none_made {text} {base} {p} {f} {q} {xs} {us} {a} {g} s e c =
    let is = c.same ∙ ap (λ z. z.arguments) e in
    let place = c.to_is in
    record {
      args = Args.none;
      way = λ h k. ap (λ z. run z (State.opened h k)) (terms-see s) ∙ goes (State.opened h k) (State.have (call h Args.none) k) (symbol sign.CloseParen) (terms text q) refl
          ∙ ap (λ z. run (terms text z) (State.have (call h Args.none) k)) (sym place);
      closed = f;
      noted = ap (λ z. record { tree = Args.none; rest = z }) (places-see s ∙ ap (λ z. f ∷ places text z) (sym place));
      ahead = subst (Ahead text p) (sym place) (ahead-one s);
      stored = record { many = ap (λ z. z.count) is; four = ap (λ z. length z.roots) is; kept = kept-all xs; held = λ r mem lies. tt };
      measured = record { counted = omega arith; sized = none-sized (ap (λ z. z.size) e) (c.size_is ∙ ap (λ z. of_list z.arguments.count a.size) e); named = λ ns k. k };
    }

-- the first argument
pub first_made : {text : List ℕ} {base p : ℕ} {x0 x1 : Table Node} {u0 u1 : Stack Span} {a g : Given} {e : Got} → (head_sort (terms text p) ≡ Some (sort.Sign sign.CloseParen) → ⊥)
    → a ≡ record { to = p; arguments = record { count = 0; roots = 0 ∷ 0 ∷ 0 ∷ 0 ∷ [] }; size = record { depth = 0; small = true } } → (E : Sequence text base p x0 x1 u0 u1 e) → With a e g → Moves text p x0 x1 e → Arguing text base p x0 x1 u0 u1 g
first_made {text} {base} {p} {x0} {x1} {u1 = u1} {a = a} {g = g} {e = e} other is E w me =
    let x = E.parsed.tree in
    let place = w.to_is in
    let roots : g.arguments.roots ≡ e.root ∷ 0 ∷ 0 ∷ 0 ∷ [] = w.roots ∙ ap (λ z. set z.arguments.roots z.arguments.count e.root) is in
    let zero-count : a.arguments.count ≡ 0 = ap (λ z. z.arguments.count) is in
    record {
      before = Args.none;
      tree = x;
      way = λ h k. argument-begins h k (terms text p) (not_first _ (symbol sign.CloseParen) other) ∙ E.parsed.reads.way (Context.within (Bracket.argument h Args.none) k) (omega arith)
          ∙ ap (λ z. run (terms text z) (State.have (forget x) (Context.within (Bracket.argument h Args.none) k))) (sym place);
      noted = note-first (forget x) x _ _ E.parsed.reads.noted ∙ ap (λ z. record { tree = Args.more Args.none x; rest = places text z }) (sym place);
      ahead = subst (Ahead text p) (sym place) E.parsed.reads.ahead;
      calm = subst (λ z. Calm (forget x) (terms text z)) (sym place) E.calm;
      last = subst (λ z. Last (terms text z)) (sym place) E.last;
      stored = record {
        many = omega (arith, w.many);
        four = ap length roots;
        kept = E.parsed.built.kept;
        held = λ r mem lies. (
          tt,
          λ _. subst (λ z. (get_or z 0 0 < x1.count) × TreeAt mem x1.items.now (get_or z 0 0) x) (sym roots) (me.root, E.parsed.built.held r mem lies),
        );
      };
      measured = record {
        counted = omega (arith, E.parsed.measured.counted);
        sized = more-sized Args.none x w.size_is (nothing-sized (ap (λ z. z.size) is)) E.parsed.measured.sized;
        named = E.parsed.measured.named;
      };
    }

pub first-lost : {text : List ℕ} {p e : ℕ} → (head_sort (terms text p) ≡ Some (sort.Sign sign.CloseParen) → ⊥) → Refused 4 text p e → RefusedArgs text p e
first-lost other r =
    record {
      from = r.from;
      ahead = r.ahead;
      place = r.place;
      way = λ h k. argument-begins h k _ (not_first _ (symbol sign.CloseParen) other) ∙ r.way (Context.within (Bracket.argument h Args.none) k) (omega arith);
    }

module _ {text : List ℕ} {base p : ℕ} {x0 x1 : Table Node} {u0 u1 : Stack Span} {a : Given} (A : Arguing text base p x0 x1 u0 u1 a)
    {fa ta : ℕ} (sa : Sees text a.to (symbol sign.Comma) fa ta) where
  comma-read : (h : Callee) (k : Context) → run (terms text p) (State.opened h k) ≡ run (terms text ta) (State.want (Context.within (Bracket.argument h (forget_args (Args.more A.before A.tree))) k))
  comma-read h k =
      A.way h k ∙ ap (λ z. run z (State.have (forget A.tree) (Context.within (Bracket.argument h (forget_args A.before)) k))) (terms-see sa)
      ∙ goes (State.have (forget A.tree) (Context.within (Bracket.argument h (forget_args A.before)) k)) (State.want (Context.within (Bracket.argument h (forget_args (Args.more A.before A.tree))) k))
      (symbol sign.Comma) (terms text ta) refl

  pub next-lost : {e : ℕ} → Refused 4 text ta e → RefusedArgs text p e
  next-lost r =
      record {
        from = r.from;
        ahead = ahead-then A.ahead (ahead-then (ahead-one sa) r.ahead);
        place = r.place;
        way = λ h k. comma-read h k ∙ r.way (Context.within (Bracket.argument h (forget_args (Args.more A.before A.tree))) k) (omega arith);
      }

  pub next-made : {x2 : Table Node} {u2 : Stack Span} {e : Got} {g : Given} → (E : Sequence text base ta x1 x2 u1 u2 e) → With a e g → Moves text ta x1 x2 e → x0.count ≤ x1.count → Arguing text base p x0 x2 u0 u2 g
  next-made {x2} {u2} {e} {g} E w me le =
      let x = E.parsed.tree in
      let es = Args.more A.before A.tree in
      let place = w.to_is in
      let four : length g.arguments.roots ≡ 4 = ap length w.roots ∙ length-set _ _ _ ∙ A.stored.four in
      record {
        before = es;
        tree = x;
        way = λ h k. comma-read h k ∙ E.parsed.reads.way (Context.within (Bracket.argument h (forget_args es)) k) (omega arith)
            ∙ ap (λ z. run (terms text z) (State.have (forget x) (Context.within (Bracket.argument h (forget_args es)) k))) (sym place);
        noted = note-more (forget_args A.before) (forget A.tree) (forget x) A.before A.tree x fa _ _ _ (A.noted ∙ ap (λ z. record { tree = es; rest = z }) (places-see sa)) E.parsed.reads.noted
            ∙ ap (λ z. record { tree = Args.more es x; rest = places text z }) (sym place);
        ahead = subst (Ahead text p) (sym place) (ahead-then A.ahead (ahead-then (ahead-one sa) E.parsed.reads.ahead));
        calm = subst (λ z. Calm (forget x) (terms text z)) (sym place) E.calm;
        last = subst (λ z. Last (terms text z)) (sym place) E.last;
        stored = record {
          many = omega (arith, w.many, A.stored.many);
          four = four;
          kept = kept_then A.stored.kept E.parsed.built.kept le;
          held = λ r mem lies.
              let old : ArgsAt mem x2.items.now x2.count a.arguments.roots es =
              args-below mem x2.items.now es x1.count x2.count a.arguments.roots (omega arith)
              (args-kept mem es x1.count a.arguments.roots E.parsed.built.kept (omega arith) (A.stored.held (omega (arith, E.parsed.built.kept.room)) mem lies)) in
              let now : ArgsAt mem x2.items.now x2.count g.arguments.roots es =
              subst (λ z. ArgsAt mem x2.items.now x2.count z es) (sym w.roots) (args-set mem x2.items.now es x2.count a.arguments.roots a.arguments.count e.root (omega (arith, A.stored.many)) old) in (
                now,
                λ q.
                    let at-root : e.root ≡ get_or g.arguments.roots (count es) 0 =
                    sym (ap (λ z. get_or z (count es) 0) w.roots ∙ ap (λ z. get_or (set a.arguments.roots z e.root) (count es) 0) A.stored.many
                    ∙ get_or-set_same a.arguments.roots (count es) e.root 0 (omega (arith, A.stored.four))) in
                    subst (λ z. (z < x2.count) × TreeAt mem x2.items.now z x) at-root (me.root, E.parsed.built.held r mem lies),
              );
        };
        measured = record {
          counted = omega (arith, E.parsed.measured.counted, A.measured.counted);
          sized = more-sized es x w.size_is A.measured.sized E.parsed.measured.sized;
          named = λ ns k. E.parsed.measured.named _ (A.measured.named ns k);
        };
      }

-- the `)` behind arguments
pub close-lost : {text : List ℕ} {base p e : ℕ} {x0 x1 : Table Node} {u0 u1 : Stack Span} {a : Given} → (A : Arguing text base p x0 x1 u0 u1 a)
    → (head_sort (terms text a.to) ≡ Some (sort.Sign sign.Comma) → ⊥) → Missing text a.to (sort.Sign sign.CloseParen) e → RefusedArgs text p e
close-lost {a = a} A other h =
    record {
      from = a.to;
      ahead = A.ahead;
      place = h.0;
      way = λ f k. A.way f k ∙ bracket-halts (Bracket.argument f (forget_args A.before)) _ k _ A.calm A.last (not_first _ (symbol sign.CloseParen) h.1, not_first _ (symbol sign.Comma) other);
    }

pub args-made : {text : List ℕ} {base p fc tc : ℕ} {x0 x1 : Table Node} {u0 u1 : Stack Span} {a g : Given} → (A : Arguing text base p x0 x1 u0 u1 a) → Sees text a.to (symbol sign.CloseParen) fc tc
    → Closed a tc g → Argued text base p x0 x1 u0 u1 g
args-made {text} {base} {p} {fc} {tc} {x0} {x1} {u1 = u1} {a = a} {g = g} A s c =
    let es = Args.more A.before A.tree in
    let place = c.to_is in
    record {
      args = es;
      way = λ h k. A.way h k ∙ ap (λ z. run z (State.have (forget A.tree) (Context.within (Bracket.argument h (forget_args A.before)) k))) (terms-see s)
          ∙ goes (State.have (forget A.tree) (Context.within (Bracket.argument h (forget_args A.before)) k)) (State.have (call h (forget_args es)) k) (symbol sign.CloseParen) (terms text tc) refl
          ∙ ap (λ z. run (terms text z) (State.have (call h (forget_args es)) k)) (sym place);
      closed = fc;
      noted = A.noted ∙ ap (λ z. record { tree = es; rest = z }) (places-see s ∙ ap (λ z. fc ∷ places text z) (sym place));
      ahead = subst (Ahead text p) (sym place) (ahead-then A.ahead (ahead-one s));
      stored = record {
        many = ap (λ z. z.count) c.same ∙ A.stored.many;
        four = ap (λ z. length z.roots) c.same ∙ A.stored.four;
        kept = A.stored.kept;
        held = λ r mem lies.
            subst (λ z. ArgsAt mem x1.items.now x1.count z es) (ap (λ z. z.roots) (sym c.same)) (A.stored.held r mem lies);
      };
      measured = record {
        counted = A.measured.counted;
        sized = list-sized a.arguments.count es c.size_is A.stored.many A.measured.sized;
        named = A.measured.named;
      };
    }

pub some_same : {a b : Target} → ◌≡◌ {A = Option Target} (some a) (some b) → a ≡ b
some_same e = cc

-- an expression of one token
pub leaf-read : {text : List ℕ} {p f q : ℕ} {t : Terminal} (T : Expr ℕ) → Sees text p t f q
    → level (forget T) ≤ 1 → ((k : Context) → step (State.want k) t ≡ some (State.have (forget T) k)) → ((ns : List ℕ) → annotate 0 (forget T) (f ∷ ns) ≡ record { tree = T; rest = ns })
    → ((u : Target) → target_of (forget T) ≡ some u → t ≡ target_token u) → Reads 1 text p q T
leaf-read {text} {p} {f} {q} T s low go noted plain =
    let done = on (λ k. State.have (forget T) k) here s go in
    record {
      low = low;
      way = λ k h. done.way k;
      noted = ap (annotate 0 (forget T)) (places-see s) ∙ noted (places text q);
      plain = λ u i. terms-see s ∙ ap (λ z. z ∷ terms text q) (plain u i);
      ahead = done.ahead;
    }

pub leaf-made : {text : List ℕ} {base p f q : ℕ} {xs zs : Table Node} {us vs : Stack Span} {x : Form} {size : Size} {g : Got} {t : Terminal} (T : Expr ℕ) → Sees text p t f q
    → level (forget T) ≤ 1 → ((k : Context) → step (State.want k) t ≡ some (State.have (forget T) k)) → ((ns : List ℕ) → annotate 0 (forget T) (f ∷ ns) ≡ record { tree = T; rest = ns })
    → ((u : Target) → target_of (forget T) ≡ some u → t ≡ target_token u) → f ≡ note_of T → Put xs zs (record { place = f; form = x }) q size g
    → nodes T ≡ 1 → Sized size T → ((ns : List (List ℕ)) → Knows text us ns → Knows text vs (names_after ns T))
    → ((mem : Memory) → Lies mem text base → at zs.items.now xs.count ≡ record { place = f; form = x } → TreeAt mem zs.items.now xs.count T) → Parsed 1 text base p xs zs us vs g
leaf-made {xs = xs} T s low go noted plain place put one sized named held =
    made T put (leaf-read T s low go noted plain) place (kept-all xs) (omega arith) (omega (arith, one)) sized named (λ mem lies kz lt is. held mem lies is)

-- where no expression begins
pub end-lost : {text : List ℕ} {p : ℕ} → left text p ≡ [] → Refused 1 text p (length text)
end-lost {text} {p} e =
    record {
      from = p;
      ahead = ahead_none;
      place = sym (ap (λ z. first (length text) (map (λ (x : Placed). x.place) z)) e);
      way = λ k h. want-halts k (terms text p) (subst (λ z. NoItem (map (λ (x : Placed). x.token) z)) (sym e) tt);
    }

pub token-lost : {text : List ℕ} {p f q : ℕ} {t : Terminal} → Sees text p t f q → IdleRole (role t) → Refused 1 text p f
token-lost {text} {p} s h =
    record { from = p; ahead = ahead_none; place = sym (ap (first (length text)) (places-see s)); way = λ k i. want-halts k (terms text p) (subst NoItem (sym (terms-see s)) h) }

pub idle-sign : (s : Symbol) → IdleRole (role (symbol s))
idle-sign sign.Dot = tt
idle-sign sign.Comma = tt
idle-sign sign.Semicolon = tt
idle-sign sign.OpenParen = tt
idle-sign sign.CloseParen = tt
idle-sign sign.Equals = tt
idle-sign sign.Less = tt

pub idle-word : (k : Keyword) → (k ≡ word.If → ⊥) → (k ≡ word.While → ⊥) → (k ≡ word.New → ⊥) → (k ≡ word.Nil → ⊥) → (k ≡ word.SelfWord → ⊥) → IdleRole (role (keyword k))
idle-word word.Class a b c d e = tt
idle-word word.Begin a b c d e = tt
idle-word word.End a b c d e = tt
idle-word word.Def a b c d e = tt
idle-word word.If a b c d e = a refl
idle-word word.Then a b c d e = tt
idle-word word.Else a b c d e = tt
idle-word word.While a b c d e = b refl
idle-word word.Do a b c d e = tt
idle-word word.New a b c d e = c refl
idle-word word.InstanceOf a b c d e = tt
idle-word word.SelfWord a b c d e = e refl
idle-word word.Nil a b c d e = d refl
