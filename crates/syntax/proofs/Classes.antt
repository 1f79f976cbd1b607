-- A whole class, token by token.
use Rattle.std.proofs.Common.{◌≡◌, ℕ, ◌≤◌, List, [], ◌∷◌, map, length, Some, sym, refl, ap, ◌∙◌, subst, arith}
use mathlib.Core.Option.{some}
use Rattle.lexer.specs.Token.{Terminal, identifier, keyword, symbol}
use Rattle.lexer.specs.Tokens.{Placed}
use Rattle.lexer.specs.declared.token.Keyword.TheVariants as word
use Rattle.lexer.specs.declared.token.Symbol.TheVariants as sign
use Rattle.text.specs.declared.span.Span.{Span}
use Rattle.grammar.specs.Tree.{Text, BareClass}
use Rattle.grammar.specs.Tree as tree
use Rattle.grammar.specs.Grammar.{Kind}
use Rattle.grammar.specs.Role.{Stop}
use Rattle.grammar.specs.Machine.{Stage, State, Outcome, step, run, parse}
use Rattle.grammar.specs.Notes.{forget_text, first, annotate_text}
use Rattle.grammar.proofs.Steps.{name-halts, only-halts, either-halts, class-halts}
use Rattle.nodes.specs.declared.node.Node.{Node}
use Rattle.nodes.specs.declared.node.Method.{Method}
use Rattle.syntax.specs.declared.table.Table.{Table}
use Rattle.syntax.specs.declared.read.Judged.{Judged}
use Rattle.syntax.specs.declared.sight.Sort.{Sort}
use Rattle.syntax.specs.declared.sight.Sort.TheVariants as sort
use Rattle.syntax.specs.Left.{left, terms, places}
use Rattle.syntax.specs.Sight.{slice, shown, head_sort}
use Rattle.nodes.specs.Trees.{span_of}
use Rattle.nodes.specs.Methods.{MethodsAt}
use Rattle.syntax.specs.Parsing.{Ahead}
use Rattle.syntax.specs.Classes.{class_with, MembersMeasured, MembersRefused}
use Rattle.syntax.specs.Ended.{TextStuck}
use Rattle.syntax.specs.Whole.{ClassMeasured}
use Rattle.syntax.proofs.Reading.{Sees, not_first, no_name, terms-see, places-see, ahead_none, ahead-one, ahead-then}
use Rattle.syntax.proofs.Forms.{Missing, word-seen}
use Rattle.syntax.proofs.Methods.{step-on}

-- the machine comes from the text's beginning to the state s at q
record At (text : List ℕ) (q : ℕ) (s : State) : Type 0 where
  ahead : Ahead text 0 q
  way : parse Kind.class (terms text 0) ≡ run (terms text q) s

go_on : {text : List ℕ} {q r f : ℕ} {t : Terminal} {s : State} (m : State) → At text q s → Sees text q t f r → step s t ≡ some m → At text r m
go_on {s = s} m a see e = record { ahead = ahead-then a.ahead (ahead-one see); way = a.way ∙ step-on s m see e }

stops : {text : List ℕ} {q e : ℕ} {s : State} → At text q s → run (terms text q) s ≡ Outcome.refused (terms text q) → e ≡ first (length text) (places text q) → TextStuck Kind.class text e
stops {q = q} a h i = record { from = q; ahead = a.ahead; place = i; way = a.way ∙ h }

begun : {text : List ℕ} → At text 0 (State.define Stage.start)
begun = record { ahead = ahead_none; way = refl }

-- an end of the text behind the class
over-class : (c : BareClass) (r : List Terminal) → r ≡ [] → run r (State.define (Stage.end c)) ≡ Outcome.accepted (Text.class c)
unfolding run
over-class c r h = ap (λ z. run z (State.define (Stage.end c))) h

module _ {text : List ℕ} where
  pub class-word-lost : {e : ℕ} → Missing text 0 (sort.Word word.Class) e → TextStuck Kind.class text e
  class-word-lost h = stops begun (only-halts (State.define Stage.start) Stop.class _ _ (λ ρ. refl) refl (not_first _ (keyword word.Class) h.1)) h.0

  module _ {f1 p1 : ℕ} (s1 : Sees text 0 (keyword word.Class) f1 p1) where
    at1 : At text p1 (State.define Stage.class)
    at1 = go_on (State.define Stage.class) begun s1 refl

    pub class-name-lost : {e : ℕ} → Missing text p1 sort.Name e → TextStuck Kind.class text e
    class-name-lost h = stops at1 (name-halts (State.define Stage.class) (λ c. State.define (Stage.class_name c)) _ (λ ρ. refl) refl (no_name _ h.1)) h.0

    module _ {n2 p2 : ℕ} (s2 : Sees text p1 (identifier (slice text n2 p2)) n2 p2) where
      at2 : At text p2 (State.define (Stage.class_name (slice text n2 p2)))
      at2 = go_on (State.define (Stage.class_name (slice text n2 p2))) at1 s2 refl

      pub less-lost : {e : ℕ} → Missing text p2 (sort.Sign sign.Less) e → TextStuck Kind.class text e
      less-lost h = stops at2 (only-halts (State.define (Stage.class_name (slice text n2 p2))) Stop.less _ _ (λ ρ. refl) refl (not_first _ (symbol sign.Less) h.1)) h.0

      module _ {f3 p3 : ℕ} (s3 : Sees text p2 (symbol sign.Less) f3 p3) where
        at3 : At text p3 (State.define (Stage.less (slice text n2 p2)))
        at3 = go_on (State.define (Stage.less (slice text n2 p2))) at2 s3 refl

        pub parent-lost : {e : ℕ} → Missing text p3 sort.Name e → TextStuck Kind.class text e
        parent-lost h = stops at3 (name-halts (State.define (Stage.less (slice text n2 p2))) (λ y. State.define (Stage.parent (slice text n2 p2) y)) _ (λ ρ. refl) refl (no_name _ h.1)) h.0

        module _ {n4 p4 : ℕ} (s4 : Sees text p3 (identifier (slice text n4 p4)) n4 p4) where
          at4 : At text p4 (State.define (Stage.parent (slice text n2 p2) (slice text n4 p4)))
          at4 = go_on (State.define (Stage.parent (slice text n2 p2) (slice text n4 p4))) at3 s4 refl

          pub begin-lost : {e : ℕ} → Missing text p4 (sort.Word word.Begin) e → TextStuck Kind.class text e
          begin-lost h = stops at4 (only-halts (State.define (Stage.parent (slice text n2 p2) (slice text n4 p4))) Stop.begin _ _ (λ ρ. refl) refl (not_first _ (keyword word.Begin) h.1)) h.0

          module _ {f5 p5 : ℕ} (s5 : Sees text p4 (keyword word.Begin) f5 p5) where
            at5 : At text p5 (State.define (Stage.members (class_with (slice text n2 p2) (slice text n4 p4) [])))
            at5 = go_on (State.define (Stage.members (class_with (slice text n2 p2) (slice text n4 p4) []))) at4 s5 refl

            pub members-lost : {e : ℕ} → MembersRefused text p5 e → TextStuck Kind.class text e
            members-lost r = record { from = r.from; ahead = ahead-then at5.ahead r.ahead; place = r.place; way = at5.way ∙ r.way (slice text n2 p2) (slice text n4 p4) }

            module _ {base : ℕ} {xs ys : Table Node} {rs ss : Table Method} {j : Judged ℕ} (M : MembersMeasured text base p5 xs ys rs ss j) where
              whole-class : tree.Class ℕ
              whole-class = record { name = slice text n2 p2; parent = slice text n4 p4; methods = M.read.methods }

              at6 : At text j.read (State.define (Stage.members (class_with (slice text n2 p2) (slice text n4 p4) M.read.methods)))
              at6 = record { ahead = ahead-then at5.ahead M.read.ahead; way = at5.way ∙ M.read.way (slice text n2 p2) (slice text n4 p4) }

              pub class-end-lost : {e : ℕ} → (head_sort (terms text j.read) ≡ Some (sort.Word word.Def) → ⊥) → Missing text j.read (sort.Word word.End) e → TextStuck Kind.class text e
              class-end-lost other h =
                  stops at6
                  (either-halts (State.define (Stage.members (class_with (slice text n2 p2) (slice text n4 p4) M.read.methods))) Stop.def _ Stop.end _ _ (λ ρ. refl) refl (not_first _ (keyword word.Def) other) (not_first _ (keyword word.End) h.1))
                  h.0

              module _ {f7 p7 : ℕ} (s7 : Sees text j.read (keyword word.End) f7 p7) where
                at7 : At text p7 (State.define (Stage.end (class_with (slice text n2 p2) (slice text n4 p4) M.read.methods)))
                at7 = go_on (State.define (Stage.end (class_with (slice text n2 p2) (slice text n4 p4) M.read.methods))) at6 s7 refl

                pub class-left : {from : ℕ} → (s : Sort) × (to : ℕ) × (left text p7 ≡ shown text s from to) → TextStuck Kind.class text from
                class-left e =
                    let see : Sees text p7 _ _ _ = record { is = e.2 } in
                    stops at7
                    (subst (λ r. run r (State.define (Stage.end (class_with (slice text n2 p2) (slice text n4 p4) M.read.methods))) ≡ Outcome.refused r) (sym (terms-see see)) (class-halts _ _ _))
                    (sym (ap (first (length text)) (places-see see)))

                pub class-made : {sp sq : Span} {n m : ℕ} → left text p7 ≡ [] → sp ≡ span_of base n2 p2 → sq ≡ span_of base n4 p4 → n2 ≤ p2 → p2 ≤ length text → n4 ≤ p4 → p4 ≤ length text → n ≡ ys.count → m ≡ ss.count
                    → ClassMeasured text base xs ys rs ss (record { read = record { name = sp; parent = sq; methods = m; nodes = n }; within = j.within })
                unfolding whole-class
                class-made end e g h2 l2 h4 l4 hn hm =
                    record {
                      read = record {
                        class = whole-class;
                        way = at7.way ∙ over-class _ (terms text p7) (ap (map (λ (p : Placed). p.token)) end);
                        noted = ap (λ z. (annotate_text 0 (forget_text (Text.class whole-class)) z).tree) (places-see s1 ∙ ap (λ z. f1 ∷ z) (places-see s2 ∙ ap (λ z. n2 ∷ z) (places-see s3 ∙ ap (λ z. f3 ∷ z) (places-see s4 ∙ ap (λ z. n4 ∷ z) (places-see s5)))))
                            ∙ ap (λ z. Text.class (record { name = slice text n2 p2; parent = slice text n4 p4; methods = z.tree })) M.read.noted;
                        counted = hn ∙ M.read.counted;
                        many = hm ∙ M.read.many;
                        name = word-seen base n2 p2 e h2 l2;
                        parent = word-seen base n4 p4 g h4 l4;
                        held = λ room seats mem lies. subst (λ z. MethodsAt mem ys.items.now z ss.items.now M.read.methods) (sym hn) (M.read.held (omega arith) (omega arith) mem lies);
                        lenders = M.read.lenders;
                      };
                      within = M.within;
                    }
