-- Parameters, methods and classes, from their parts.
use Rattle.std.proofs.Common.{◌≡◌, ℕ, ◌+◌, ◌-◌, ◌*◌, ◌<◌, ◌≤◌, Bool, true, ◌&&◌, ◌≢◌, List, [], ◌∷◌, ◌++◌, map, length, get_or, drop, set, Some, Decides, sym, refl, ap, ◌∙◌, subst, ⊎_elim, arith}
use mathlib.Core.Option.{some}
use Rattle.std.proofs.lemmas.List.{drop-drop, length-append, length-set, get_or-set_same, get_or-set_other, get_or_append_left, get_or_push, drop-map}
use Rattle.std.proofs.lemmas.Bool.{cases_lt}
use Rattle.std.proofs.lemmas.Bool.Decides.{Decides-like, Decides-and}
use Rattle.lexer.specs.Token.{Terminal, identifier, keyword, symbol}
use Rattle.lexer.specs.Tokens.{Placed}
use Rattle.lexer.specs.declared.token.Keyword.TheVariants as word
use Rattle.lexer.specs.declared.token.Symbol.TheVariants as sign
use Rattle.text.specs.declared.span.Span.{Span}
use Rattle.text.specs.Memory.{Memory}
use Rattle.grammar.specs.Tree.{Expr, Bare, BareClass, BareMethod}
use Rattle.grammar.specs.Tree as tree
use Rattle.grammar.specs.Role.{Stop}
use Rattle.grammar.specs.Machine.{Context, Stage, State, step, run, with_method}
use Rattle.grammar.specs.Notes.{forget, forget_methods, annotate, past_names, annotate_method, annotate_methods}
use Rattle.grammar.specs.Measure.{nodes, method_nodes, BodyWithin, MethodsWithin}
use Rattle.grammar.proofs.Steps.{goes, name-halts, only-halts, either-halts, parameters-halt, body-halts}
use Rattle.nodes.specs.declared.node.Node.{Node}
use Rattle.syntax.specs.declared.read.Got.{Got}
use Rattle.nodes.specs.declared.node.Parameters.{Parameters}
use Rattle.syntax.specs.declared.read.Listed.{Listed}
use Rattle.nodes.specs.declared.node.Method.{Method}
use Rattle.syntax.specs.declared.read.Defined.{Defined}
use Rattle.stack.specs.declared.Stack.{Stack}
use Rattle.stack.specs.Held.{held}
use Rattle.syntax.specs.declared.table.Table.{Table}
use Rattle.syntax.specs.declared.read.Judged.{Judged}
use Rattle.syntax.specs.declared.sight.Sort.TheVariants as sort
use Rattle.syntax.specs.Left.{left, terms, places}
use Rattle.syntax.specs.Sight.{slice, head_sort}
use Rattle.nodes.specs.Trees.{span_of, WordAt}
use Rattle.syntax.specs.Parsing.{Ahead, Kept, Sequence, Refused, Moves}
use Rattle.nodes.specs.Methods.{no_span, ParametersAt, MethodAt, MethodsAt}
use Rattle.syntax.specs.Classes.{Past, Listing, ParametersRead, ParametersRefused, MethodRefused, class_with, MembersRefused, Adds, MethodMeasured, MembersMeasured}
use Rattle.syntax.specs.Sizes.{Knows}
use Rattle.syntax.proofs.Nodes.{tree-kept}
use Rattle.syntax.proofs.Sizes.{body-within}
use Rattle.syntax.proofs.Naming.{learn-all-more}
use Rattle.syntax.proofs.Reading.{Sees, not_first, no_name, terms-see, places-see, ahead_none, ahead-one, ahead-then, noted-then}
use Rattle.syntax.proofs.Forms.{Missing, word-seen}

past_one : {text : List ℕ} {p f q : ℕ} {t : Terminal} → Sees text p t f q → Past text p 1 q
past_one s = record { is = sym (ap (drop 1) s.is) }

past-then : {text : List ℕ} {p q r k l : ℕ} (m : ℕ) → k + l ≡ m → Past text p k q → Past text q l r → Past text p m r
past-then {text} {p} {k = k} {l = l} m e a b = record { is = b.is ∙ ap (drop l) a.is ∙ drop-drop l k (left text p) ∙ ap (λ z. drop z (left text p)) e }

past-ahead : {text : List ℕ} {p k q : ℕ} → Past text p k q → Ahead text p q
past-ahead {k = k} a = record { past = k; is = a.is }

past-places : {text : List ℕ} {p k q : ℕ} → Past text p k q → places text q ≡ drop k (places text p)
past-places {text} {p} {k} a = ap (map (λ (x : Placed). x.place)) a.is ∙ sym (drop-map _ k (left text p))

-- one token on, from a state to the next
pub step-on : {text : List ℕ} {q r f : ℕ} {t : Terminal} (s m : State) → Sees text q t f r → step s t ≡ some m → run (terms text q) s ≡ run (terms text r) m
step-on {text} {r = r} {t = t} s m see e = ap (λ z. run z s) (terms-see see) ∙ goes s m t (terms text r) e

-- parameters
params_more : {m : Memory} {r s : Parameters} {ps : List (List ℕ)} (x : Span) (w : List ℕ) → ParametersAt m r ps → length r.names ≡ 4 → s.count ≡ r.count + 1 → s.names ≡ set r.names r.count x
    → WordAt m x w → ParametersAt m s (ps ++ (w ∷ []))
params_more {m} {r} {s} {ps} x w P four c e h =
    let many = P.many in
    record {
      many = c ∙ sym (length-append ps (w ∷ []) ∙ ap (λ z. z + 1) (sym many));
      words = λ i lt four-at.
          let l = length-append ps (w ∷ []) in
          ⊎_elim
          (λ b.
          let ne : i ≢ r.count = omega arith in
          let n : get_or r.names i no_span ≡ get_or s.names i no_span = sym (ap (λ z. get_or z i no_span) e ∙ get_or-set_other r.names r.count i x no_span ne) in
          let v : get_or ps i [] ≡ get_or (ps ++ (w ∷ [])) i [] = sym (get_or_append_left ps (w ∷ []) [] i b) in
          subst (λ z. WordAt m z (get_or (ps ++ (w ∷ [])) i [])) n (subst (WordAt m (get_or r.names i no_span)) v (P.words i b four-at)))
          (λ b.
          let at : i ≡ length ps = omega arith in
          let n : x ≡ get_or s.names i no_span = sym (ap (λ z. get_or z i no_span) e ∙ ap (λ z. get_or (set r.names z x) i no_span) (many ∙ sym at) ∙ get_or-set_same r.names i x no_span (omega arith)) in
          let v : w ≡ get_or (ps ++ (w ∷ [])) i [] = sym (get_or_push ps w [] i (sym at)) in
          subst (λ z. WordAt m z (get_or (ps ++ (w ∷ [])) i [])) n (subst (WordAt m x) v h))
          (cases_lt i (length ps));
    }

pub no-parameters-made : {text : List ℕ} {base p f q : ℕ} {us : Stack Span} {g : Listed} → Sees text p (symbol sign.CloseParen) f q
    → g ≡ record { to = q; parameters = record { count = 0; names = no_span ∷ no_span ∷ no_span ∷ no_span ∷ [] } } → ParametersRead text base p us us g
no-parameters-made {text} {base} {p} {f} {q} {us} s e =
    subst (ParametersRead text base p us us) (sym e)
    (record {
      names = [];
      way = λ c d. step-on (State.define (Stage.open' c d)) (State.want (Context.body c d [])) s refl;
      past = past_one s;
      held = λ m lies. record { many = refl; words = λ i lt h. absurd (omega arith) };
      many = refl;
      named = λ k. k;
    })

pub first-listed : {text : List ℕ} {base p from to : ℕ} {us vs : Stack Span} {a g : Listed} → Sees text p (identifier (slice text from to)) from to
    → a ≡ record { to = p; parameters = record { count = 0; names = no_span ∷ no_span ∷ no_span ∷ no_span ∷ [] } } → Adds text base us vs a from to g → from ≤ to → to ≤ length text → Listing text base p us vs g
first-listed {text} {base} {p} {from} {to} {us} {vs} {a} {g} s e d h le =
    let w = slice text from to in
    let none-at : (m : Memory) → ParametersAt m a.parameters [] = λ m. record { many = ap (λ z. z.parameters.count) e; words = λ i lt four. absurd (omega arith) } in
    let four : length a.parameters.names ≡ 4 = ap (λ z. length z.parameters.names) e in
    record {
      before = [];
      last = w;
      way = λ c x. step-on (State.define (Stage.open' c x)) (State.define (Stage.parameter c x [] w)) s refl
          ∙ ap (λ z. run (terms text z) (State.define (Stage.parameter c x [] w))) (sym d.to_is);
      past = subst (Past text p 1) (sym d.to_is) (past_one s);
      four = ap length d.names ∙ length-set _ _ _ ∙ four;
      many = d.many ∙ ap (λ z. z.parameters.count + 1) e;
      held = λ m lies. params_more (span_of base from to) w (none-at m) four d.many d.names (word-seen base from to refl h le m lies);
      named = d.named.learns [];
    }

pub parameters-lost : {text : List ℕ} {p e : ℕ} → (head_sort (terms text p) ≡ Some (sort.Sign sign.CloseParen) → ⊥) → Missing text p sort.Name e → ParametersRefused text p e
parameters-lost {p = p} other h =
    record { from = p; ahead = ahead_none; place = h.0; way = λ c d. parameters-halt c d _ (no_name _ h.1) (not_first _ (symbol sign.CloseParen) other) }

module _ {text : List ℕ} {base p : ℕ} {us vs : Stack Span} {a : Listed} (A : Listing text base p us vs a) where
  pub parameters-close-lost : {e : ℕ} → (head_sort (terms text a.to) ≡ Some (sort.Sign sign.Comma) → ⊥) → Missing text a.to (sort.Sign sign.CloseParen) e → ParametersRefused text p e
  parameters-close-lost other h =
      record {
        from = a.to;
        ahead = past-ahead A.past;
        place = h.0;
        way = λ c d. A.way c d
            ∙ either-halts (State.define (Stage.parameter c d A.before A.last)) Stop.close _ Stop.comma _ _ (λ ρ. refl) refl (not_first _ (symbol sign.CloseParen) h.1) (not_first _ (symbol sign.Comma) other);
      }

  pub parameters-made : {f q : ℕ} → Sees text a.to (symbol sign.CloseParen) f q → ParametersRead text base p us vs (record { to = q; parameters = a.parameters })
  parameters-made s =
      record {
        names = A.before ++ (A.last ∷ []);
        way = λ c d. A.way c d ∙ step-on (State.define (Stage.parameter c d A.before A.last)) (State.want (Context.body c d (A.before ++ (A.last ∷ [])))) s refl;
        past = past-then _ (let l = length-append A.before (A.last ∷ []) in omega arith) A.past (past_one s);
        held = A.held;
        many = let l = length-append A.before (A.last ∷ []) in omega (arith, A.many);
        named = A.named;
      }

  module _ {fc tc : ℕ} (sc : Sees text a.to (symbol sign.Comma) fc tc) where
    comma-on : (c : BareClass) (d : List ℕ) → run (terms text p) (State.define (Stage.open' c d)) ≡ run (terms text tc) (State.define (Stage.comma c d (A.before ++ (A.last ∷ []))))
    comma-on c d = A.way c d ∙ step-on (State.define (Stage.parameter c d A.before A.last)) (State.define (Stage.comma c d (A.before ++ (A.last ∷ [])))) sc refl

    pub next-parameter-lost : {e : ℕ} → Missing text tc sort.Name e → ParametersRefused text p e
    next-parameter-lost h =
        record {
          from = tc;
          ahead = ahead-then (past-ahead A.past) (ahead-one sc);
          place = h.0;
          way = λ c d. comma-on c d
              ∙ name-halts (State.define (Stage.comma c d (A.before ++ (A.last ∷ [])))) (λ x. State.define (Stage.parameter c d (A.before ++ (A.last ∷ [])) x)) _ (λ ρ. refl) refl (no_name _ h.1);
        }

    pub next-listed : {from to : ℕ} {ws : Stack Span} {g : Listed} → Sees text tc (identifier (slice text from to)) from to → Adds text base vs ws a from to g → from ≤ to → to ≤ length text
        → Listing text base p us ws g
    next-listed {from} {to} {ws} {g} s d h le =
        let w = slice text from to in
        let ps = A.before ++ (A.last ∷ []) in
        let l = length-append A.before (A.last ∷ []) in
        record {
          before = ps;
          last = w;
          way = λ c x. comma-on c x ∙ step-on (State.define (Stage.comma c x ps)) (State.define (Stage.parameter c x ps w)) s refl
              ∙ ap (λ z. run (terms text z) (State.define (Stage.parameter c x ps w))) (sym d.to_is);
          past = subst (Past text p (2 * length ps + 1)) (sym d.to_is) (past-then {k = 2 * length A.before + 2} {l = 1} _ (omega arith) (past-then _ (omega arith) A.past (past_one sc)) (past_one s));
          four = ap length d.names ∙ length-set _ _ _ ∙ A.four;
          many = let q = d.many in let r = A.many in omega arith;
          held = λ m lies. params_more (span_of base from to) w (A.held m lies) A.four d.many d.names (word-seen base from to refl h le m lies);
          named = λ k. subst (Knows text ws) (sym (learn-all-more [] ps w)) (d.named.learns _ (A.named k));
        }

-- a method
past_names-is : (ps : List (List ℕ)) (ns : List ℕ) → past_names ps ns ≡ drop (2 * length ps - 1) ns
past_names-is [] ns = refl
past_names-is (x ∷ []) ns = refl
past_names-is (x ∷ y ∷ ys) ns =
    past_names-is (y ∷ ys) (drop 2 ns) ∙ drop-drop (2 * length (y ∷ ys) - 1) 2 ns ∙ ap (λ z. drop z ns) (let l : 2 + (2 * length (y ∷ ys) - 1) ≡ 2 * length (x ∷ y ∷ ys) - 1 = omega arith in l)

note-method : (f f1 f2 fe : ℕ) (x : List ℕ) (ps : List (List ℕ)) (b : Bare) (e : Expr ℕ) (n1 n2 n3 : List ℕ) → drop 1 (past_names ps n1) ≡ n2 → annotate 0 b n2 ≡ record { tree = e; rest = fe ∷ n3 }
    → annotate_method 0 (record { name = x; parameters = ps; body = b }) (f ∷ f1 ∷ f2 ∷ n1) ≡ record { tree = record { name = x; parameters = ps; body = e }; rest = n3 }
note-method f f1 f2 fe x ps b e n1 n2 n3 p q = rw (p, q) refl

pub method-name-lost : {text : List ℕ} {p e : ℕ} → Missing text p sort.Name e → MethodRefused text p e
method-name-lost {p = p} h =
    record { from = p; ahead = ahead_none; place = h.0; way = λ c. name-halts (State.define (Stage.def c)) (λ m. State.define (Stage.method_name c m)) _ (λ ρ. refl) refl (no_name _ h.1) }

module _ {text : List ℕ} {p from to : ℕ} (sn : Sees text p (identifier (slice text from to)) from to) where
  name-on : (c : BareClass) → run (terms text p) (State.define (Stage.def c)) ≡ run (terms text to) (State.define (Stage.method_name c (slice text from to)))
  name-on c = step-on (State.define (Stage.def c)) (State.define (Stage.method_name c (slice text from to))) sn refl

  pub method-open-lost : {e : ℕ} → Missing text to (sort.Sign sign.OpenParen) e → MethodRefused text p e
  method-open-lost h =
      record {
        from = to;
        ahead = ahead-one sn;
        place = h.0;
        way = λ c. name-on c ∙ only-halts (State.define (Stage.method_name c (slice text from to))) Stop.open' _ _ (λ ρ. refl) refl (not_first _ (symbol sign.OpenParen) h.1);
      }

  module _ {fo r : ℕ} (so : Sees text to (symbol sign.OpenParen) fo r) where
    open-on : (c : BareClass) → run (terms text p) (State.define (Stage.def c)) ≡ run (terms text r) (State.define (Stage.open' c (slice text from to)))
    open-on c = name-on c ∙ step-on (State.define (Stage.method_name c (slice text from to))) (State.define (Stage.open' c (slice text from to))) so refl

    pub method-parameters-lost : {e : ℕ} → ParametersRefused text r e → MethodRefused text p e
    method-parameters-lost x =
        record { from = x.from; ahead = ahead-then (ahead-one sn) (ahead-then (ahead-one so) x.ahead); place = x.place; way = λ c. open-on c ∙ x.way c (slice text from to) }

    module _ {base : ℕ} {rs ts : Stack Span} {l : Listed} (L : ParametersRead text base r rs ts l) where
      body-on : (c : BareClass) → run (terms text p) (State.define (Stage.def c)) ≡ run (terms text l.to) (State.want (Context.body c (slice text from to) L.names))
      body-on c = open-on c ∙ L.way c (slice text from to)

      ahead-body : Ahead text p l.to
      ahead-body = ahead-then (ahead-one sn) (ahead-then (ahead-one so) (past-ahead L.past))

      pub body-lost : {e : ℕ} → Refused 4 text l.to e → MethodRefused text p e
      body-lost x =
          record { from = x.from; ahead = ahead-then ahead-body x.ahead; place = x.place; way = λ c. body-on c ∙ x.way (Context.body c (slice text from to) L.names) (omega arith) }

      module _ {xs ys : Table Node} {vs : Stack Span} {b : Got} (B : Sequence text base l.to xs ys ts vs b) where
        pub method-end-lost : {e : ℕ} → Missing text b.to (sort.Word word.End) e → MethodRefused text p e
        method-end-lost h =
            record {
              from = b.to;
              ahead = ahead-then ahead-body B.parsed.reads.ahead;
              place = h.0;
              way = λ c. body-on c ∙ B.parsed.reads.way (Context.body c (slice text from to) L.names) (omega arith)
                  ∙ body-halts c (slice text from to) L.names (forget B.parsed.tree) _ B.calm B.last (not_first _ (keyword word.End) h.1);
            }

        pub method-made : {fe te : ℕ} {sp : Span} {w : Bool} {n : ℕ} → Sees text b.to (keyword word.End) fe te → sp ≡ span_of base from to → from ≤ to → to ≤ length text → Moves text l.to xs ys b → Knows text rs [] → n ≡ length (held vs)
            → Decides w ((l.parameters.count ≤ 4) × (b.size.small ≡ true) × (b.size.depth ≤ 16) × (n ≤ 16))
            → MethodMeasured text base p xs ys (record { read = record { to = te; method = record { name = sp; parameters = l.parameters; root = b.root } }; within = w })
        method-made {fe} {te} {sp} {w} se es h le mb known count judged =
            let x = slice text from to in
            let e = B.parsed.tree in
            record {
              read = record {
                method = record { name = x; parameters = L.names; body = e };
                way = λ c. body-on c ∙ B.parsed.reads.way (Context.body c x L.names) (omega arith)
                    ∙ step-on (State.have (forget e) (Context.body c x L.names)) (State.define (Stage.members (with_method c x L.names (forget e)))) se refl;
                noted = λ f. ap (annotate_method 0 (record { name = x; parameters = L.names; body = forget e })) (ap (λ z. f ∷ z) (places-see sn ∙ ap (λ z. from ∷ z) (places-see so)))
                    ∙ note-method f from fo fe x L.names (forget e) e _ _ _
                    (ap (drop 1) (past_names-is L.names (places text r)) ∙ drop-drop 1 (2 * length L.names - 1) (places text r) ∙ sym (past-places L.past))
                    (noted-then B.parsed.reads se);
                ahead = ahead-then ahead-body (ahead-then B.parsed.reads.ahead (ahead-one se));
                kept = B.parsed.built.kept;
                held = λ room mem lies. record { name = word-seen base from to es h le mem lies; parameters = L.held mem lies; below = mb.root; body = B.parsed.built.held room mem lies };
                counted = B.parsed.measured.counted;
              };
              within = body-within w L.names e L.many B.parsed.measured.sized (B.parsed.measured.named _ (L.named known)) count judged;
            }

-- methods, one behind another
abbrev bare_method : tree.Method ℕ → BareMethod
bare_method m = record { name = m.name; parameters = m.parameters; body = forget m.body }

forget-more : (ms : List (tree.Method ℕ)) (m : tree.Method ℕ) → forget_methods (ms ++ (m ∷ [])) ≡ forget_methods ms ++ (bare_method m ∷ [])
forget-more [] m = refl
forget-more (x ∷ ms) m = ap (λ z. bare_method x ∷ z) (forget-more ms m)

note-last : (ms : List BareMethod) (m : BareMethod) (ds : List (tree.Method ℕ)) (d : tree.Method ℕ) (ns n1 n2 : List ℕ) → annotate_methods 0 ms ns ≡ record { tree = ds; rest = n1 } → annotate_method 0 m n1 ≡ record { tree = d; rest = n2 }
    → annotate_methods 0 (ms ++ (m ∷ [])) ns ≡ record { tree = ds ++ (d ∷ []); rest = n2 }
note-last [] m ds d ns n1 n2 p q =
    let e : ns ≡ n1 = ap (λ z. z.rest) p in
    let t : [] ≡ ds = ap (λ z. z.tree) p in
    ap (λ z. record { tree = z.tree ∷ []; rest = z.rest }) (ap (annotate_method 0 m) e ∙ q) ∙ ap (λ z. record { tree = z ++ (d ∷ []); rest = n2 }) t
note-last (x ∷ ms) m ds d ns n1 n2 p q =
    let u = annotate_method 0 x ns in
    let v = annotate_methods 0 ms u.rest in
    let rest : v.rest ≡ n1 = ap (λ z. z.rest) p in
    let h = note-last ms m v.tree d u.rest n1 n2 (ap (λ z. record { tree = v.tree; rest = z }) rest) q in
    ap (λ z. record { tree = u.tree ∷ z.tree; rest = z.rest }) h ∙ ap (λ z. record { tree = z ++ (d ∷ []); rest = n2 }) (ap (λ z. z.tree) p)

methods-kept : (mem : Memory) (xs ys : Table Node) (k : ℕ) (rs : List Method) (ms : List (tree.Method ℕ)) → Kept xs ys → xs.count ≤ k → MethodsAt mem xs.items.now xs.count rs ms → MethodsAt mem ys.items.now k rs ms
methods-kept mem xs ys k rs [] kept h t = tt
methods-kept mem xs ys k [] (m ∷ ms) kept h t = t
methods-kept mem xs ys k (r ∷ rs) (m ∷ ms) kept h t =
    let b = t.0.below in (
      record { name = t.0.name; parameters = t.0.parameters; below = omega arith; body = tree-kept mem m.body r.root kept b t.0.body },
      methods-kept mem xs ys k rs ms kept h t.1,
    )

methods-more : (mem : Memory) (ys : List Node) (n : ℕ) (rs : List Method) (ms : List (tree.Method ℕ)) (r : Method) (m : tree.Method ℕ) → MethodsAt mem ys n rs ms → length ms < length rs → MethodAt mem ys n r m
    → MethodsAt mem ys n (set rs (length ms) r) (ms ++ (m ∷ []))
methods-more mem ys n [] ms r m t h a = absurd (omega arith)
methods-more mem ys n (x ∷ rs) [] r m t h a = (a, tt)
methods-more mem ys n (x ∷ rs) (d ∷ ms) r m t h a = (t.0, methods-more mem ys n rs ms r m t.1 (omega arith) a)

nodes-more : (ms : List (tree.Method ℕ)) (m : tree.Method ℕ) → method_nodes (ms ++ (m ∷ [])) ≡ method_nodes ms + nodes m.body
nodes-more [] m = omega arith
nodes-more (x ∷ ms) m = let h = nodes-more ms m in omega arith

within_more : (ms : List (tree.Method ℕ)) (m : tree.Method ℕ) → MethodsWithin ms → BodyWithin m.parameters m.body → MethodsWithin (ms ++ (m ∷ []))
within_more [] m t b = (b, tt)
within_more (x ∷ ms) m t b = (t.0, within_more ms m t.1 b)

more_within : (ms : List (tree.Method ℕ)) (m : tree.Method ℕ) → MethodsWithin (ms ++ (m ∷ [])) → MethodsWithin ms × BodyWithin m.parameters m.body
more_within [] m t = (tt, t.0)
more_within (x ∷ ms) m t = let r = more_within ms m t.1 in ((t.0, r.0), r.1)

pub no-members : {text : List ℕ} {base p : ℕ} {xs : Table Node} {rs : Table Method} → xs.count ≡ 0 → rs.count ≡ 0 → MembersMeasured text base p xs xs rs rs (record { read = p; within = true })
no-members n m = record {
  read = record { methods = []; way = λ x y. refl; noted = refl; ahead = ahead_none; many = m; held = λ a b m lies. tt; counted = n; lenders = (refl, refl) };
  within = (λ _. tt, λ _. refl);
}

module _ {text : List ℕ} {base p : ℕ} {ws xs : Table Node} {qs rs : Table Method} {j : Judged ℕ} (M : MembersMeasured text base p ws xs qs rs j) where
  module _ {fd td : ℕ} (sd : Sees text j.read (keyword word.Def) fd td) where
    def-on : (x y : List ℕ) → run (terms text p) (State.define (Stage.members (class_with x y []))) ≡ run (terms text td) (State.define (Stage.def (class_with x y M.read.methods)))
    def-on x y = M.read.way x y ∙ step-on (State.define (Stage.members (class_with x y M.read.methods))) (State.define (Stage.def (class_with x y M.read.methods))) sd refl

    pub member-lost : {e : ℕ} → MethodRefused text td e → MembersRefused text p e
    member-lost r =
        record { from = r.from; ahead = ahead-then M.read.ahead (ahead-then (ahead-one sd) r.ahead); place = r.place; way = λ x y. def-on x y ∙ r.way (class_with x y M.read.methods) }

    pub member-made : {ys : Table Node} {ss : Table Method} {d : Judged Defined} → MethodMeasured text base td xs ys d → ss.count ≡ rs.count + 1 → ss.items.now ≡ set rs.items.now rs.count d.read.method → ss.items.ghost_name ≡ rs.items.ghost_name
        → xs.count ≤ ys.count → MembersMeasured text base p ws ys qs ss (record { read = d.read.to; within = j.within && d.within })
    member-made {ys} {ss} {d} D count items lender le =
        let ms = M.read.methods in
        let m = D.read.method in
        record {
          read = record {
            methods = ms ++ (m ∷ []);
            way = λ x y. def-on x y ∙ D.read.way (class_with x y ms)
                ∙ ap (λ ns. run (terms text d.read.to) (State.define (Stage.members (record { name = x; parent = y; methods = ns })))) (sym (forget-more ms m));
            noted = ap (λ z. annotate_methods 0 z (places text p)) (forget-more ms m)
                ∙ note-last (forget_methods ms) (bare_method m) ms m (places text p) (fd ∷ places text td) (places text d.read.to)
                (M.read.noted ∙ ap (λ z. record { tree = ms; rest = z }) (places-see sd)) (D.read.noted fd);
            ahead = ahead-then M.read.ahead (ahead-then (ahead-one sd) D.read.ahead);
            many = let r = M.read.many in let l = length-append ms (m ∷ []) in omega arith;
            held = λ room seats mem lies.
                let r = M.read.many in
                let ls : length ss.items.now ≡ length rs.items.now = ap length items ∙ length-set rs.items.now rs.count d.read.method in
                let old : MethodsAt mem ys.items.now ys.count rs.items.now ms = methods-kept mem xs ys ys.count rs.items.now ms D.read.kept le (M.read.held (omega (arith, D.read.kept.room)) (omega arith) mem lies) in
                let new = methods-more mem ys.items.now ys.count rs.items.now ms d.read.method m old (omega arith) (D.read.held room mem lies) in
                subst (λ z. MethodsAt mem ys.items.now ys.count z (ms ++ (m ∷ []))) (sym (items ∙ ap (λ z. set rs.items.now z d.read.method) r)) new;
            counted = D.read.counted ∙ ap (λ z. z + nodes m.body) M.read.counted ∙ sym (nodes-more ms m);
            lenders = (D.read.kept.lender ∙ M.read.lenders.0, lender ∙ M.read.lenders.1);
          };
          within = Decides-like (j.within && d.within) (λ h. within_more ms m h.0 h.1) (more_within ms m) (Decides-and j.within d.within M.within D.within);
        }
