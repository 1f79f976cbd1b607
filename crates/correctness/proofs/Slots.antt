-- Names and their registers: where a body's names stand, and what a callee finds in them. Assumes nothing.
use Rattle.std.proofs.Common.{◌≡◌, ℕ, zero, suc, ◌+◌, ◌-◌, ◌<◌, ◌≤◌, Bool, true, false, cond, ◌||◌, List, [], ◌∷◌, ◌++◌, map, length, Some, None, sym, refl, ap, ◌∙◌, ⊎_elim, append_assoc, append-nil, arith, length-append}
use Rattle.std.specs.List.{slice_get}
use Rattle.std.specs.Str.{bytes_eq}
use Rattle.std.proofs.lemmas.Bool.{both_ways, cases_lt}
use Rattle.store.specs.Val.{Val}
use Rattle.store.specs.Tables.{look}
use Rattle.machine.specs.Limits.{Limits, registers_per_frame}
use Rattle.machine.specs.Instr.{Instr, Program}
use Rattle.machine.specs.State.{Registers, read, write, passed, Frame, World, at, goes}
use Rattle.machine.proofs.Judge.{Has, Hold, none, more, Fetch, Run}
use Rattle.machine.proofs.Registers.{read-written, read-other, passed_reads}
use Rattle.machine.proofs.Runs.{run_none, run-one, run-add}
use Rattle.machine.proofs.Exec.{do-const}
use Rattle.grammar.specs.Tree.{Expr, Args}
use Rattle.grammar.specs.Measure as measure
use Rattle.grammar.specs.Measure.{learn, names_after, names_after_args}
use Rattle.rube.specs.Classes.{Classes, among}
use Rattle.rube.specs.Meaning.{bind}
use Rattle.compiler.specs.Layout.{place_in, slot, slots, free, mark}
use Rattle.correctness.proofs.Relation.{shift, held, Stand}
use Rattle.compiler.specs.Pieces.{marks}
use Rattle.correctness.proofs.Segments as seg
use Rattle.correctness.proofs.Segments.{Seg, head, tail}
use Rattle.correctness.proofs.Values.{string-key}
use Rattle.correctness.proofs.Registers.{place-below}
use Rattle.correctness.proofs.Lookup.{nth-below}

-- a list that goes on from another
pub record Begins (ns ms : List (List ℕ)) : Type 0 where
  pub rest : List (List ℕ)
  pub is : ms ≡ ns ++ rest

pub begins-itself : (ns : List (List ℕ)) → Begins ns ns
begins-itself ns = record { rest = []; is = sym (append-nil ns) }

pub begins-through : {ns ms ls : List (List ℕ)} → Begins ns ms → Begins ms ls → Begins ns ls
begins-through {ns} {ms} {ls} a b =
    record { rest = a.rest ++ b.rest; is = b.is ∙ ap (λ (l : List (List ℕ)). l ++ b.rest) a.is ∙ append_assoc ns a.rest b.rest }

pub learn-begins : (ns : List (List ℕ)) (x : List ℕ) → Begins ns (learn ns x)
learn-begins ns x = by (measure.known ns x)
  where
    by : (t : Bool) → Begins ns (cond t ns (ns ++ (x ∷ [])))
    by true = begins-itself ns
    by false = record { rest = x ∷ []; is = refl }

module _ {A : Type 0} where
  mutual
    -- the names of an expression stand behind those before it
    pub names-begin : (ns : List (List ℕ)) (e : Expr A) → Begins ns (names_after ns e)
    names-begin ns (Expr.int a w) = begins-itself ns
    names-begin ns (Expr.nil a) = begins-itself ns
    names-begin ns (Expr.self a) = begins-itself ns
    names-begin ns (Expr.string a w) = begins-itself ns
    names-begin ns (Expr.local a x) = learn-begins ns x
    names-begin ns (Expr.set_local a x e) = begins-through (learn-begins ns x) (names-begin (learn ns x) e)
    names-begin ns (Expr.field a x) = begins-itself ns
    names-begin ns (Expr.set_field a x e) = names-begin ns e
    names-begin ns (Expr.if_then_else a c d e) =
        begins-through (begins-through (names-begin ns c) (names-begin (names_after ns c) d)) (names-begin (names_after (names_after ns c) d) e)
    names-begin ns (Expr.while_do a c d) = begins-through (names-begin ns c) (names-begin (names_after ns c) d)
    names-begin ns (Expr.seq a c d) = begins-through (names-begin ns c) (names-begin (names_after ns c) d)
    names-begin ns (Expr.new a c xs) = names-begin-args ns xs
    names-begin ns (Expr.instance_of a e c) = names-begin ns e
    names-begin ns (Expr.invoke a e m xs) = begins-through (names-begin ns e) (names-begin-args (names_after ns e) xs)

    pub names-begin-args : (ns : List (List ℕ)) (xs : Args A) → Begins ns (names_after_args ns xs)
    names-begin-args ns Args.none = begins-itself ns
    names-begin-args ns (Args.more xs e) = begins-through (names-begin-args ns xs) (names-begin (names_after_args ns xs) e)

  -- the parameters come first
  pub slots-begin : (ps : List (List ℕ)) (e : Expr A) → (rest : List (List ℕ)) × (slots ps e ≡ ps ++ rest)
  slots-begin ps e = ((names-begin ps e).rest, (names-begin ps e).is)

-- a name keeps its place where more names follow
pub place-left : (xs ys : List (List ℕ)) (x : List ℕ) → among xs x ≡ true → place_in (xs ++ ys) x ≡ place_in xs x
place-left [] ys x h = absurd (both_ways _ refl h)
place-left (y ∷ xs) ys x h = by (bytes_eq y x) h (place-left xs ys x)
  where
    by : (t : Bool) → (t || among xs x) ≡ true → (among xs x ≡ true → place_in (xs ++ ys) x ≡ place_in xs x) → cond t 0 (suc (place_in (xs ++ ys) x)) ≡ cond t 0 (suc (place_in xs x))
    by true h f = refl
    by false h f = ap suc (f h)

-- a name that is not among the first has its place behind them
pub place-right : (xs ys : List (List ℕ)) (x : List ℕ) → among xs x ≡ false → length xs ≤ place_in (xs ++ ys) x
place-right [] ys x h = omega arith
place-right (y ∷ xs) ys x h = by (bytes_eq y x) h (place-right xs ys x)
  where
    by : (t : Bool) → (t || among xs x) ≡ false → (among xs x ≡ false → length xs ≤ place_in (xs ++ ys) x) → suc (length xs) ≤ cond t 0 (suc (place_in (xs ++ ys) x))
    by true h f = absurd (both_ways _ h refl)
    by false h f = let l = f h in omega arith

-- of equal parameters the leftmost argument is bound
pub look-bind : (ps : List (List ℕ)) (vs : List Val) (x : List ℕ) → length vs ≡ length ps → look (Val.string x) (bind ps vs) ≡ cond (among ps x) (slice_get vs (place_in ps x)) None
unfolding look
look-bind [] vs x n = refl
look-bind (p ∷ ps) [] x n = absurd (omega arith)
look-bind (p ∷ ps) (v ∷ vs) x n = rw (string-key p x) (by (bytes_eq p x) (look-bind ps vs x (omega arith)))
  where
    by : (t : Bool) → look (Val.string x) (bind ps vs) ≡ cond (among ps x) (slice_get vs (place_in ps x)) None
        → cond t (Some v) (look (Val.string x) (bind ps vs)) ≡ cond (t || among ps x) (slice_get (v ∷ vs) (cond t 0 (suc (place_in ps x)))) None
    by true h = refl
    by false h = h

nth-within : {X : Type 0} (xs : List X) (i : ℕ) → i < length xs → (x : X) × (slice_get xs i ≡ Some x)
nth-within [] i h = absurd (omega arith)
nth-within (x ∷ xs) zero h = (x, refl)
nth-within (x ∷ xs) (suc i) h = nth-within xs i (omega arith)

-- a callee's registers: self, the arguments, marks for the body's other names
pub enters : {A : Type 0} {P : Classes A} (ps : List (List ℕ)) (e : Expr A) (me : Val) (vs : List Val) (R : Registers) → length vs ≡ length ps
    → Has R 1 (shift P me)
    → ((i : ℕ) (v : Val) → slice_get vs i ≡ Some v → Has R (2 + i) (shift P v))
    → ((i : ℕ) → length ps ≤ i → i < length (slots ps e) → Has R (2 + i) mark)
    → Stand P (slots ps e) me (bind ps vs) R
enters {A} {P} ps e me vs R n self arguments others =
    record { me-in = self; names_in = λ x h. by x h (among ps x) refl }
  where
    begin : slots ps e ≡ ps ++ (names-begin ps e).rest
    begin = (names-begin ps e).is

    by : (x : List ℕ) → among (slots ps e) x ≡ true → (t : Bool) → among ps x ≡ t → Has R (slot (slots ps e) x) (held P (look (Val.string x) (bind ps vs)))
    by x h true p =
        let place : place_in (slots ps e) x ≡ place_in ps x = ap (λ (l : List (List ℕ)). place_in l x) begin ∙ place-left ps (names-begin ps e).rest x p in
        let below = place-below ps x p in
        let v = nth-within vs (place_in ps x) (omega arith) in
        let is : look (Val.string x) (bind ps vs) ≡ Some v.0 = look-bind ps vs x n ∙ rw (p, v.1) in
        rw (place, is) (arguments (place_in ps x) v.0 v.1)
    by x h false p =
        let behind : length ps ≤ place_in (slots ps e) x = rw begin (place-right ps (names-begin ps e).rest x p) in
        let is : look (Val.string x) (bind ps vs) ≡ None = look-bind ps vs x n ∙ rw p in
        rw is (others (place_in (slots ps e) x) behind (place-below (slots ps e) x h))

nth-mapped : {X Y : Type 0} (g : X → Y) (xs : List X) (i : ℕ) (x : X) → slice_get xs i ≡ Some x → slice_get (map g xs) i ≡ Some (g x)
nth-mapped g [] i x h = let z : ◌≡◌ {A = ℕ} 0 1 = cc in absurd (omega arith)
nth-mapped g (y ∷ xs) zero x h = ap (λ (z : _). Some (g z)) (cc)
nth-mapped g (y ∷ xs) (suc i) x h = nth-mapped g xs i x h

-- registers that hold values hold each of them
pub held_at : {R : Registers} {a : ℕ} {ws : List Val} (i : ℕ) (w : Val) → Hold R a ws → slice_get ws i ≡ Some w → Has R (a + i) w
held_at i w none h = let z : ◌≡◌ {A = ℕ} 0 1 = cc in absurd (omega arith)
held_at {a = a} zero w (more b t) h = let e : a + 0 ≡ a = omega arith in rw (e, ← injected h) b
  where
    injected : {u v : Val} → Some u ≡ Some v → u ≡ v
    injected p = cc
held_at {a = a} (suc i) w (more b t) h = let e : a + suc i ≡ suc a + i = omega arith in rw e (held_at i w t h)

hold-from : (R : Registers) (a : ℕ) (ws : List Val) → ((i : ℕ) (w : Val) → slice_get ws i ≡ Some w → Has R (a + i) w) → Hold R a ws
hold-from R a [] h = none
hold-from R a (w ∷ ws) h =
    let e : a + 0 ≡ a = omega arith in
    more (rw e at (h 0 w refl)) (hold-from R (suc a) ws (λ i v g. let k : a + suc i ≡ suc a + i = omega arith in rw k at (h (suc i) v g)))

-- a callee holds what it was passed
pub passed-held : (ws : List Val) → Hold (passed ws) 0 ws
passed-held ws = hold-from (passed ws) 0 ws (λ i w h. let e : 0 + i ≡ i = omega arith in record { is = rw e (passed_reads ws i ∙ h) })

-- n registers from r on are marked, and those before them as they were
pub record Marked (C : Program) (L : Limits) (f p q : ℕ) (R : Registers) (S : List Frame) (W : World) (r n : ℕ) : Type 0 where
  pub after : Registers
  pub runs : Run C L n (at f p R S W) (goes (at f q after S W))
  pub marked : (i : ℕ) → r ≤ i → i < r + n → Has after i mark
  pub before : (i : ℕ) → i < r → read after i ≡ read R i

marks-more : {C : Program} {L : Limits} {f p q : ℕ} {S : List Frame} {W : World} {R : Registers} {r n : ℕ} → Fetch C f p (Instr.const r mark) → r < registers_per_frame → Marked C L f (suc p) q (write R r mark) S W (suc r) n → Marked C L f p q R S W r (suc n)
marks-more {R = R} {r = r} {n = n} h b on =
    let one : 1 + n ≡ suc n = omega arith in
    record {
      after = on.after;
      runs = rw one at (run-add (run-one (do-const h b)) on.runs);
      marked = λ i l u. ⊎_elim
          (λ (h : i < suc r). let e : i ≡ r = omega arith in record { is = rw e (on.before r (omega arith) ∙ read-written R r mark) })
          (λ (h : suc r ≤ i). on.marked i h (omega arith))
          (cases_lt i (suc r));
      before = λ i u. on.before i (omega arith) ∙ read-other R r i mark (λ e. omega arith);
    }

pub marks-run : {C : Program} {L : Limits} {f p q : ℕ} {S : List Frame} {W : World} (R : Registers) (r n : ℕ) → r + n ≤ registers_per_frame → Seg C f p (marks r n) q → Marked C L f p q R S W r n
marks-run R r zero b c =
    record { after = R; runs = rw (seg.none c) run_none; marked = λ i l u. absurd (omega arith); before = λ i u. refl }
marks-run R r (suc n) b c = marks-more (head c) (omega arith) (marks-run (write R r mark) (suc r) n (omega arith) (tail c))

-- a body begins: after the marks its names stand in their registers
pub body-begins : {A : Type 0} {P : Classes A} {C : Program} {L : Limits} {f p q : ℕ} {S : List Frame} {W : World} (ps : List (List ℕ)) (e : Expr A) (me : Val) (vs : List Val) (R : Registers)
    → Seg C f p (marks (2 + length ps) (length (slots ps e) - length ps)) q → free (slots ps e) ≤ registers_per_frame → length vs ≡ length ps → Hold R 1 (shift P me ∷ map (shift P) vs)
    → (R' : Registers) × Run C L (length (slots ps e) - length ps) (at f p R S W) (goes (at f q R' S W)) × Stand P (slots ps e) me (bind ps vs) R'
body-begins {A} {P} {C} {L} {f} {p} {q} {S} {W} ps e me vs R c b n (more self rest) =
    let begin = ap length (names-begin ps e).is ∙ length-append ps (names-begin ps e).rest in
    let m = marks-run {L = L} {S = S} {W = W} R (2 + length ps) (length (slots ps e) - length ps) (omega arith) c in (
      m.after,
      m.runs,
      enters ps e me vs m.after n
          (record { is = m.before 1 (omega arith) ∙ self.is })
          (λ i v h.
          let l = nth-below vs i v h in
          record { is = m.before (2 + i) (omega arith) ∙ (held_at i (shift P v) rest (nth-mapped (shift P) vs i v h)).is })
          (λ i l u. m.marked (2 + i) (omega arith) (omega arith)),
    )
