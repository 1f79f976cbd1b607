-- Whole texts, in the words of the grammar.
use Rattle.std.proofs.Common.{◌≡◌, ℕ, ◌<◌, ◌≤◌, Bool, true, false, List, [], ◌∷◌, ◌++◌, map, length, take, drop, Decides, Ok, Err, Result, MatchResult, sym, refl, ap, ◌∙◌, subst, arith}
use Rattle.std.proofs.lemmas.List.{take-append-drop, length-drop}
use Rattle.std.proofs.lemmas.Bool.Decides.{not_from_Decides}
use Rattle.lexer.specs.Law.{Stuck, stuck}
use Rattle.lexer.proofs.Reading.{law as lexing}
use Rattle.lexer.specs.Tokens.{Placed, Tokens, tokens}
use Rattle.stack.specs.declared.Stack.{Stack}
use Rattle.stack.specs.Held.{held}
use Rattle.text.specs.declared.span.Span.{Span}
use Rattle.syntax.specs.declared.table.Table.{Table}
use Rattle.syntax.specs.Sizes.{Knows}
use Rattle.grammar.specs.Tree.{Expr, Text}
use Rattle.grammar.specs.Grammar.{Kind}
use Rattle.grammar.specs.Machine.{Context, State, Outcome, run, parse}
use Rattle.grammar.specs.Notes.{forget, forget_text, annotate, annotate_text}
use Rattle.grammar.proofs.Steps.{rule-halts}
use Rattle.grammar.proofs.Whole.{law}
use Rattle.nodes.specs.declared.node.Node.{Node}
use Rattle.syntax.specs.declared.read.Got.{Got}
use Rattle.nodes.specs.declared.node.Method.{Method}
use Rattle.syntax.specs.declared.read.Judged.{Judged}
use Rattle.nodes.specs.declared.node.Rule.{Rule}
use Rattle.nodes.specs.declared.node.Class.{Class}
use Rattle.nodes.specs.declared.refusal.Refusal.{Refusal}
use Rattle.nodes.specs.declared.refusal.Refusal.TheVariants.{OverLimit}
use Rattle.syntax.specs.declared.sight.Sort.{Sort}
use Rattle.syntax.specs.Left.{left, terms, places}
use Rattle.syntax.specs.Sight.{shown}
use Rattle.syntax.specs.Breaks.{kinds, places_of, Lexes, Breaks}
use Rattle.syntax.specs.Whole.{Written, RuleJudged, TooLarge, RefusedWithin, RuleWithin, ClassWithin, ClassJudged, ClassMeasured, RuleMeasured}
use Rattle.syntax.specs.Parsing.{Sequence, Refused}
use Rattle.syntax.specs.Ended.{TextStuck}
use Rattle.syntax.proofs.Reading.{Sees, terms-see, places-see}
use Rattle.syntax.proofs.Sizes.{body-within}

-- a token is left behind the rule
pub rule-left : {text : List ℕ} {base from : ℕ} {xs ys : Table Node} {us vs : Stack Span} {g : Got} → Sequence text base 0 xs ys us vs g → (s : Sort) × (to : ℕ) × (left text g.to ≡ shown text s from to) → TextStuck Kind.rule text from
rule-left {text} {g = g} S e =
    let see : Sees text g.to _ _ _ = record { is = e.2 } in
    let x = S.parsed.tree in
    record {
      from = g.to;
      ahead = S.parsed.reads.ahead;
      place = sym (ap (Rattle.grammar.specs.Notes.first (length text)) (places-see see));
      way = S.parsed.reads.way Context.whole (omega arith)
          ∙ subst (λ r. run r (State.have (forget x) Context.whole) ≡ Outcome.refused r) (sym (terms-see see))
          (rule-halts (forget x) _ _ (subst (Rattle.grammar.specs.Following.Calm (forget x)) (terms-see see) S.calm) (subst Rattle.grammar.specs.Following.Last (terms-see see) S.last));
    }

pub rule-lost : {text : List ℕ} {e : ℕ} → Refused 4 text 0 e → TextStuck Kind.rule text e
rule-lost r = record { from = r.from; ahead = r.ahead; place = r.place; way = r.way Context.whole (omega arith) }

-- what the machine refuses, no tree has
pub breaks : {κ : Kind} {text t : List ℕ} {e : ℕ} → t ≡ text → Lexes text (left text 0) → TextStuck κ t e → Breaks κ text e
breaks {κ} {text} {e = e} same l r =
    let s = subst (λ z. TextStuck κ z e) same r in
    let k = s.ahead.past in
    let ts = left text 0 in
    let split : take k ts ++ drop k ts ≡ ts = take-append-drop k ts in
    let refuses = (law κ).refuses (kinds ts) (kinds (left text s.from)) s.way in
    record {
      before = take k ts;
      rest = drop k ts;
      lexes = subst (Lexes text) (sym split) l;
      refuses = subst (λ z. Rattle.grammar.specs.Law.Refuses κ (kinds z) (kinds (drop k ts))) (sym split) (subst (λ z. Rattle.grammar.specs.Law.Refuses κ (kinds ts) (kinds z)) s.ahead.is refuses);
      place = s.place ∙ ap (λ z. Rattle.grammar.specs.Notes.first (length text) (places_of z)) s.ahead.is;
    }

-- what the machine accepts is written so
pub written : {κ : Kind} {text : List ℕ} (t : Text ℕ) → Lexes text (left text 0) → parse κ (terms text 0) ≡ Outcome.accepted (forget_text t) → (annotate_text 0 (forget_text t) (places text 0)).tree ≡ t → Written κ text t
written {κ} {text} t l h n =
    let s = (law κ).sound (terms text 0) (forget_text t) h in
    record {
      placed = left text 0;
      lexes = l;
      formed = s.0;
      same = s.1;
      noted = n;
      only = λ u f e. (law κ).one-tree u (forget_text t) f s.0 (e ∙ sym s.1);
    }

accepts : (e : Expr ℕ) (r : List Rattle.lexer.specs.Token.Terminal) → r ≡ [] → run r (State.have (forget e) Context.whole) ≡ Outcome.accepted (Text.rule (forget e))
unfolding run
accepts e r h = ap (λ z. run z (State.have (forget e) Context.whole)) h

-- the rule, and whether it is within the limits by what was measured of it
pub rule-made : {text : List ℕ} {base : ℕ} {xs ys : Table Node} {us vs : Stack Span} {g : Got} {w : Bool} {n k : ℕ} → Sequence text base 0 xs ys us vs g → left text g.to ≡ [] → xs.count ≡ 0 → n ≡ ys.count → Knows text us [] → k ≡ length (held vs)
    → Decides w ((0 ≤ 4) × (g.size.small ≡ true) × (g.size.depth ≤ 16) × (k ≤ 16)) → RuleMeasured text base xs ys (record { read = record { root = g.root; nodes = n }; within = w })
rule-made {text} {g = g} {w} S end none count known names d =
    let P = S.parsed in
    let x = P.tree in
    record {
      read = record {
        tree = x;
        way = P.reads.way Context.whole (omega arith) ∙ accepts x (terms text g.to) (ap (map (λ (p : Placed). p.token)) end);
        noted = ap (λ z. Text.rule z.tree) P.reads.noted;
        counted = omega (arith, P.measured.counted);
        held = λ room mem lies. P.built.held (omega arith) mem lies;
        lender = P.built.kept.lender;
      };
      within = body-within w [] x refl P.measured.sized (P.measured.named [] known) names d;
    }

pub rule-judged : {text t : List ℕ} {base b : ℕ} {xs ys : Table Node} {zs : List Node} {g : Judged Rule} → (t ≡ text) × (b ≡ base) → zs ≡ ys.items.now → Lexes text (left text 0) → RuleMeasured t b xs ys g → RuleJudged text base zs g
rule-judged {text} {b = b} {xs = xs} {ys} {g = g} same is l N =
    let M = subst (λ z. RuleMeasured text z xs ys g) same.1 (subst (λ z. RuleMeasured z b xs ys g) same.0 N) in
    let R = M.read in
    rw is (record { stands = record { tree = R.tree; written = written (Text.rule R.tree) l R.way R.noted; counted = R.counted; held = R.held }; within = M.within })

pub rule-too-large : {text : List ℕ} {base : ℕ} {ys : List Node} {g : Judged Rule} → RuleJudged text base ys g → g.within ≡ false → TooLarge Kind.rule text
rule-too-large {g = g} R h = record { tree = Text.rule R.stands.tree; written = R.stands.written; over = not_from_Decides g.within R.within h }

stuck-some : (l : List ℕ) → Stuck l → 0 < length l
stuck-some (b ∷ l) s = omega arith
stuck-some [] s = nothing s refl
  where
    nothing : {l : List ℕ} → Stuck l → l ≡ [] → 0 < length {A = ℕ} []
    nothing (stuck x y) e = let z : ◌≡◌ {A = ℕ} 0 1 = cc in absurd (omega arith)

-- a stray byte is one of the text's
pub stray-inside : (text : List ℕ) (p : ℕ) → tokens text ≡ Tokens.stray p → p < length text
stray-inside text p e =
    let s = lexing.refused text p e in
    let h = stuck-some (drop p text) s.1.1 in
    let d = length-drop p text in
    omega arith

pub class-judged : {text t : List ℕ} {base b : ℕ} {xs ys : Table Node} {rs ss : Table Method} {ns : List Node} {ms : List Method} {g : Judged Class} → (t ≡ text) × (b ≡ base) → ns ≡ ys.items.now → ms ≡ ss.items.now → Lexes text (left text 0)
    → ClassMeasured t b xs ys rs ss g → ClassJudged text base ns ms g
class-judged {text} {b = b} {xs = xs} {ys} {rs} {ss} {g = g} same n m l N =
    let M = subst (λ z. ClassMeasured text z xs ys rs ss g) same.1 (subst (λ z. ClassMeasured z b xs ys rs ss g) same.0 N) in
    let R = M.read in
    rw (n, m) (record {
      stands = record {
        class = R.class;
        written = written (Text.class R.class) l R.way R.noted;
        counted = R.counted;
        many = R.many;
        name = R.name;
        parent = R.parent;
        held = R.held;
      };
      within = M.within;
    })

pub class-too-large : {text : List ℕ} {base : ℕ} {ys : List Node} {rs : List Method} {g : Judged Class} → ClassJudged text base ys rs g → g.within ≡ false → TooLarge Kind.class text
class-too-large {g = g} R h = record { tree = Text.class R.stands.class; written = R.stands.written; over = not_from_Decides g.within R.within h }

-- what is accepted, or refused as over the limits
pub rule-accepted : {text : List ℕ} {base : ℕ} {ns : List Node} (g : Judged Rule) (r : Result Rule Refusal) → RuleJudged text base ns g → MatchResult r (λ x. (x ≡ g.read) × (g.within ≡ true)) (λ f. (f ≡ OverLimit) × (g.within ≡ false))
    → MatchResult r (λ x. RuleWithin text base ns x) (λ f. RefusedWithin Kind.rule text f)
rule-accepted {text} {base} {ns} g (Ok x) R h = subst (RuleWithin text base ns) (sym h.0) (record { stands = R.stands; within = R.within.0 h.1 })
rule-accepted {text} g (Err f) R h = subst (RefusedWithin Kind.rule text) (sym h.0) (rule-too-large R h.1)

pub class-accepted : {text : List ℕ} {base : ℕ} {ns : List Node} {ms : List Method} (g : Judged Class) (r : Result Class Refusal) → ClassJudged text base ns ms g → MatchResult r (λ x. (x ≡ g.read) × (g.within ≡ true)) (λ f. (f ≡ OverLimit) × (g.within ≡ false))
    → MatchResult r (λ x. ClassWithin text base ns ms x) (λ f. RefusedWithin Kind.class text f)
class-accepted {text} {base} {ns} {ms} g (Ok x) R h = subst (ClassWithin text base ns ms) (sym h.0) (record { stands = R.stands; within = R.within.0 h.1 })
class-accepted {text} g (Err f) R h = subst (RefusedWithin Kind.class text) (sym h.0) (class-too-large R h.1)
