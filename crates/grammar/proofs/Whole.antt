-- The law, from one step.
use Rattle.std.proofs.Common.{◌≡◌, ℕ, ◌≤◌, ◌⊎◌, List, [], ◌∷◌, ◌++◌, sym, refl, ap, ◌∙◌, subst, ap₂, inl, inr, append_assoc, append-nil, arith}
use mathlib.Core.Option.{Option, none, some}
use Rattle.lexer.specs.Token.{Terminal}
use Rattle.grammar.specs.Tree.{Expr, Text, Bare, BareText}
use Rattle.grammar.specs.Grammar.{Kind, toks, tokens_of, level, Formed, FormedText}
use Rattle.grammar.specs.Machine.{Target, Context, room, Stage, State, Outcome, step, over, over_at, finish, went, run, initial, parse}
use Rattle.grammar.specs.Law.{Begins, Stuck, Refuses, HasTree, Law}
use Rattle.grammar.proofs.Reading.{read_k, read_at, read, roomy, FineK, FineAt, Fine, Leads, step-leads}
use Rattle.grammar.proofs.Closing.{closed, closing, closed-toks, closed-formed}
use Rattle.grammar.proofs.Complete.{text-complete}

-- the tokens lead from one state to another
data Reach : State → List Terminal → State → Type 0 where
  here : {s : State} → Reach s [] s
  on : {s m z : State} {t : Terminal} {ts : List Terminal} → step s t ≡ some m → Reach m ts z → Reach s (t ∷ ts) z

-- where a run is refused
abbrev Blocked : State → List Terminal → Type 0
Blocked s [] = Unit {0}
Blocked s (t ∷ r) = step s t ≡ none

record Halts (s : State) (ts rest : List Terminal) : Type 0 where
  at : State
  pre : List Terminal
  split : ts ≡ pre ++ rest
  way : Reach s pre at
  blocked : Blocked at rest

over-end : (e : Bare) (k : Context) (rest : List Terminal) → over e k ≡ Outcome.refused rest → [] ≡ rest
over-end e Context.whole rest q = cc
over-end e (Context.body c m ps) rest q = cc
over-end e (Context.value (Target.local x) k) rest q = over-end (Expr.set_local tt x e) k rest q
over-end e (Context.value (Target.field x) k) rest q = over-end (Expr.set_field tt x e) k rest q
over-end e (Context.rest d k) rest q = over-end (Expr.seq tt d e) k rest q
over-end e (Context.within b k) rest q = cc

over_at-end : (p : Stage) (rest : List Terminal) → over_at p ≡ Outcome.refused rest → [] ≡ rest
over_at-end Stage.start rest q = cc
over_at-end Stage.class rest q = cc
over_at-end (Stage.class_name c) rest q = cc
over_at-end (Stage.less c) rest q = cc
over_at-end (Stage.parent c p) rest q = cc
over_at-end (Stage.members c) rest q = cc
over_at-end (Stage.def c) rest q = cc
over_at-end (Stage.method_name c m) rest q = cc
over_at-end (Stage.open' c m) rest q = cc
over_at-end (Stage.parameter c m ps p) rest q = cc
over_at-end (Stage.comma c m ps) rest q = cc
over_at-end (Stage.end c) rest q = cc

finish-end : (s : State) (rest : List Terminal) → finish s ≡ Outcome.refused rest → [] ≡ rest
finish-end (State.want k) rest q = cc
finish-end (State.have e k) rest q = over-end e k rest q
finish-end (State.dotted e k) rest q = cc
finish-end (State.tested e k) rest q = cc
finish-end (State.newed k) rest q = cc
finish-end (State.named f k) rest q = cc
finish-end (State.opened f k) rest q = cc
finish-end (State.define p) rest q = over_at-end p rest q

halts : (ts : List Terminal) (s : State) (rest : List Terminal) → run ts s ≡ Outcome.refused rest → Halts s ts rest
unfolding run
halts [] s rest q = subst (Halts s []) (finish-end s rest q) (record { at = s; pre = []; split = refl; way = here; blocked = tt })
halts (t ∷ ts) s rest q = go (step s t) refl (halts ts)
  where
    go : (o : Option State) → step s t ≡ o → ((m : State) (x : List Terminal) → run ts m ≡ Outcome.refused x → Halts m ts x) → Halts s (t ∷ ts) rest
    go none e ih =
        let same : Outcome.refused (t ∷ ts) ≡ Outcome.refused rest = sym (ap (went (run ts) (t ∷ ts)) e) ∙ q in
        let is : t ∷ ts ≡ rest = cc in
        subst (Halts s (t ∷ ts)) is (record { at = s; pre = []; split = refl; way = here; blocked = e })
    go (some m) e ih =
        let h = ih m rest (sym (ap (went (run ts) (t ∷ ts)) e) ∙ q) in
        record { at = h.at; pre = t ∷ h.pre; split = ap (λ z. t ∷ z) h.split; way = on e h.way; blocked = h.blocked }

reach-run : {s z : State} {pre : List Terminal} → Reach s pre z → (r : List Terminal) → run (pre ++ r) s ≡ run r z
unfolding run
reach-run here r = refl
reach-run (on {s = s} {t = t} {ts = ts} e q) r = ap (went (run (ts ++ r)) (t ∷ (ts ++ r))) e ∙ reach-run q r

module _ (κ : Kind) where
  -- one step, with its equation
  moved : (s : State) (t : Terminal) (m : State) → step s t ≡ some m → Fine κ s → Leads κ (λ r. read s (t ∷ r)) (some m)
  moved s t m e h = subst (Leads κ (λ r. read s (t ∷ r))) e (step-leads κ s t h)

  reach_leads : {s z : State} {pre : List Terminal} → Reach s pre z → Fine κ s → Leads κ (λ r. read s (pre ++ r)) (some z)
  reach_leads here h = (λ r. refl, h)
  reach_leads (on {s = s} {m = m} {t = t} {ts = ts} e q) h =
      let w = moved s t m e h in
      let v = reach_leads q w.1 in
      (λ r. w.0 (ts ++ r) ∙ v.0 r, v.1)

  -- the accepted tree has the tokens that were read
  over-held : (e : Bare) (k : Context) (t : BareText) → over e k ≡ Outcome.accepted t → Formed e → level e ≤ room k → FineK κ k → FormedText κ t × (tokens_of t ≡ read_k k (toks e []))
  over-held e Context.whole t q fe h fk = let z : Text.rule e ≡ t = cc in (subst (FormedText κ) z (fk, fe), ap tokens_of (sym z))
  over-held e (Context.body c m ps) t q fe h fk = let z : ◌≡◌ {A = ℕ} 0 1 = cc in absurd (omega arith)
  over-held e (Context.value (Target.local x) k) t q fe h fk = over-held (Expr.set_local tt x e) k t q (h, fe) (roomy k) fk
  over-held e (Context.value (Target.field x) k) t q fe h fk = over-held (Expr.set_field tt x e) k t q (h, fe) (roomy k) fk
  over-held e (Context.rest d k) t q fe h fk = over-held (Expr.seq tt d e) k t q (fk.0, fk.1, fe) fk.2 fk.3
  over-held e (Context.within b k) t q fe h fk = let z : ◌≡◌ {A = ℕ} 0 1 = cc in absurd (omega arith)

  over_at-held : (p : Stage) (t : BareText) → over_at p ≡ Outcome.accepted t → κ ≡ Kind.class → FineAt p → FormedText κ t × (tokens_of t ≡ read_at p [])
  over_at-held Stage.start t q κc h = let z : ◌≡◌ {A = ℕ} 0 1 = cc in absurd (omega arith)
  over_at-held Stage.class t q κc h = let z : ◌≡◌ {A = ℕ} 0 1 = cc in absurd (omega arith)
  over_at-held (Stage.class_name c) t q κc h = let z : ◌≡◌ {A = ℕ} 0 1 = cc in absurd (omega arith)
  over_at-held (Stage.less c) t q κc h = let z : ◌≡◌ {A = ℕ} 0 1 = cc in absurd (omega arith)
  over_at-held (Stage.parent c p) t q κc h = let z : ◌≡◌ {A = ℕ} 0 1 = cc in absurd (omega arith)
  over_at-held (Stage.members c) t q κc h = let z : ◌≡◌ {A = ℕ} 0 1 = cc in absurd (omega arith)
  over_at-held (Stage.def c) t q κc h = let z : ◌≡◌ {A = ℕ} 0 1 = cc in absurd (omega arith)
  over_at-held (Stage.method_name c m) t q κc h = let z : ◌≡◌ {A = ℕ} 0 1 = cc in absurd (omega arith)
  over_at-held (Stage.open' c m) t q κc h = let z : ◌≡◌ {A = ℕ} 0 1 = cc in absurd (omega arith)
  over_at-held (Stage.parameter c m ps p) t q κc h = let z : ◌≡◌ {A = ℕ} 0 1 = cc in absurd (omega arith)
  over_at-held (Stage.comma c m ps) t q κc h = let z : ◌≡◌ {A = ℕ} 0 1 = cc in absurd (omega arith)
  over_at-held (Stage.end c) t q κc h = let z : Text.class c ≡ t = cc in (subst (FormedText κ) z (κc, h), ap tokens_of (sym z))

  finish-held : (s : State) (t : BareText) → finish s ≡ Outcome.accepted t → Fine κ s → FormedText κ t × (tokens_of t ≡ read s [])
  finish-held (State.want k) t q h = let z : ◌≡◌ {A = ℕ} 0 1 = cc in absurd (omega arith)
  finish-held (State.have e k) t q h = let g = roomy k in over-held e k t q h.1 (omega arith) h.2
  finish-held (State.dotted e k) t q h = let z : ◌≡◌ {A = ℕ} 0 1 = cc in absurd (omega arith)
  finish-held (State.tested e k) t q h = let z : ◌≡◌ {A = ℕ} 0 1 = cc in absurd (omega arith)
  finish-held (State.newed k) t q h = let z : ◌≡◌ {A = ℕ} 0 1 = cc in absurd (omega arith)
  finish-held (State.named f k) t q h = let z : ◌≡◌ {A = ℕ} 0 1 = cc in absurd (omega arith)
  finish-held (State.opened f k) t q h = let z : ◌≡◌ {A = ℕ} 0 1 = cc in absurd (omega arith)
  finish-held (State.define p) t q h = over_at-held p t q h.0 h.1

  held : (ts : List Terminal) (s : State) (t : BareText) → run ts s ≡ Outcome.accepted t → Fine κ s → FormedText κ t × (tokens_of t ≡ read s ts)
  unfolding run
  held [] s t q h = finish-held s t q h
  held (x ∷ ts) s t q h = go (step s x) refl (held ts)
    where
      go : (o : Option State) → step s x ≡ o → ((m : State) (y : BareText) → run ts m ≡ Outcome.accepted y → Fine κ m → FormedText κ y × (tokens_of y ≡ read m ts)) → FormedText κ t × (tokens_of t ≡ read s (x ∷ ts))
      go none e ih =
          let same : Outcome.refused (x ∷ ts) ≡ Outcome.accepted t = sym (ap (went (run ts) (x ∷ ts)) e) ∙ q in
          let z : ◌≡◌ {A = ℕ} 0 1 = cc in absurd (omega arith)
      go (some m) e ih =
          let w = moved s x m e h in
          let v = ih m t (sym (ap (went (run ts) (x ∷ ts)) e) ∙ q) w.1 in
          (v.0, v.1 ∙ sym (w.0 ts))

  -- a tree whose tokens go on as a refused run cannot be
  stuck : (pre rest : List Terminal) (z : State) → Reach (initial κ) pre z → Blocked z rest → parse κ (pre ++ rest) ≡ Outcome.refused rest → Stuck κ pre rest
  unfolding run
  stuck pre [] z w b q = λ t ft i.
      let a : parse κ pre ≡ Outcome.accepted t = ap (parse κ) (sym i) ∙ text-complete κ t ft in
      let c : parse κ pre ≡ Outcome.refused [] = ap (parse κ) (sym (append-nil pre)) ∙ q in
      let u : ◌≡◌ {A = ℕ} 0 1 = cc in absurd (omega arith)
  stuck pre (x ∷ r) z w b q = λ t tail ft i.
      let a : Outcome.accepted t ≡ Outcome.refused (x ∷ tail) = sym (text-complete κ t ft) ∙ ap (parse κ) i ∙ reach-run w (x ∷ tail) ∙ ap (went (run tail) (x ∷ tail)) b in
      let u : ◌≡◌ {A = ℕ} 0 1 = cc in absurd (omega arith)

  unique : (a b : BareText) → FormedText κ a → FormedText κ b → tokens_of a ≡ tokens_of b → a ≡ b
  unique a b fa fb q =
      let h : Outcome.accepted a ≡ Outcome.accepted b = sym (text-complete κ a fa) ∙ ap (parse κ) q ∙ text-complete κ b fb in
      cc

initial-fine : (κ : Kind) → Fine κ (initial κ)
initial-fine Kind.rule = refl
initial-fine Kind.class = (refl, tt)

initial-read : (κ : Kind) (ts : List Terminal) → read (initial κ) ts ≡ ts
initial-read Kind.rule ts = refl
initial-read Kind.class ts = refl

sound : (κ : Kind) (ts : List Terminal) (t : BareText) → parse κ ts ≡ Outcome.accepted t → FormedText κ t × (tokens_of t ≡ ts)
sound κ ts t q = let w = held κ ts (initial κ) t q (initial-fine κ) in (w.0, w.1 ∙ initial-read κ ts)

refuses : (κ : Kind) (ts rest : List Terminal) → parse κ ts ≡ Outcome.refused rest → Refuses κ ts rest
refuses κ ts rest q =
    let h = halts ts (initial κ) rest q in
    let w = reach_leads κ h.way (initial-fine κ) in
    let s = h.at in
    record {
      pre = h.pre;
      split = h.split;
      viable = (closed s, closing s, closed-formed κ s w.1, closed-toks s ∙ sym (w.0 (closing s)) ∙ initial-read κ (h.pre ++ closing s));
      stuck = stuck κ h.pre rest s h.way h.blocked (ap (parse κ) (sym h.split) ∙ q);
    }

decided : (κ : Kind) (ts : List Terminal) → HasTree κ ts ⊎ ((rest : List Terminal) × Refuses κ ts rest)
decided κ ts = go (parse κ ts) refl
  where
    go : (o : Outcome) → parse κ ts ≡ o → HasTree κ ts ⊎ ((rest : List Terminal) × Refuses κ ts rest)
    go (Outcome.accepted t) q = let w = sound κ ts t q in inl (t, w.0, w.1)
    go (Outcome.refused rest) q = inr (rest, refuses κ ts rest q)

never_both : (κ : Kind) (ts rest : List Terminal) → Refuses κ ts rest → HasTree κ ts → ⊥
never_both κ ts [] h g = h.stuck g.0 g.1 (g.2 ∙ h.split ∙ append-nil h.pre)
never_both κ ts (x ∷ rest) h g = h.stuck g.0 rest g.1 (g.2 ∙ h.split)

-- p is shorter than q: the tokens behind p begin with what q has more
record Shorter (p a q b : List Terminal) : Type 0 where
  next : Terminal
  more : List Terminal
  longer : q ≡ p ++ (next ∷ more)
  behind : a ≡ next ∷ (more ++ b)

data Splits (p a q b : List Terminal) : Type 0 where
  same : a ≡ b → Splits p a q b
  left : Shorter p a q b → Splits p a q b
  right : Shorter q b p a → Splits p a q b

-- two ways to split one list
splits : (p a q b : List Terminal) → p ++ a ≡ q ++ b → Splits p a q b
splits [] a [] b e = same e
splits [] a (x ∷ q) b e = left (record { next = x; more = q; longer = refl; behind = e })
splits (x ∷ p) a [] b e = right (record { next = x; more = p; longer = refl; behind = sym e })
splits (x ∷ p) a (y ∷ q) b e =
    let heads : x ≡ y = cc in
    let tails : p ++ a ≡ q ++ b = cc in
    elim (splits p a q b tails) [
      | same h ↦ same h
      | left h ↦ left (record { next = h.next; more = h.more; longer = ap₂ ◌∷◌ (sym heads) h.longer; behind = h.behind })
      | right h ↦ right (record { next = h.next; more = h.more; longer = ap₂ ◌∷◌ heads h.longer; behind = h.behind })
    ]

-- what some tree begins with is not stuck earlier
not_earlier : (κ : Kind) (p a q b : List Terminal) → Stuck κ p a → Begins κ q → Shorter p a q b → ⊥
not_earlier κ p a q b st w h =
    let blocked : Stuck κ p (h.next ∷ (h.more ++ b)) = subst (Stuck κ p) h.behind st in
    blocked w.0 (h.more ++ w.1) w.2 (w.3 ∙ ap (λ z. z ++ w.1) h.longer ∙ append_assoc p (h.next ∷ h.more) w.1)

one_place : (κ : Kind) (ts a b : List Terminal) → Refuses κ ts a → Refuses κ ts b → a ≡ b
one_place κ ts a b h g = elim (splits h.pre a g.pre b (sym h.split ∙ g.split)) [
  | same e ↦ e
  | left s ↦ absurd (not_earlier κ h.pre a g.pre b h.stuck g.viable s)
  | right s ↦ absurd (not_earlier κ g.pre b h.pre a g.stuck h.viable s)
]

pub law : (κ : Kind) → Law κ
law κ = record {
  sound = sound κ;
  complete = text-complete κ;
  refuses = refuses κ;
  decided = decided κ;
  never_both = never_both κ;
  one-tree = unique κ;
  one_place = one_place κ;
}
