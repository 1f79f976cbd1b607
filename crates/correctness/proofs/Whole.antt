-- The law of compiled rules, from what becomes of a run. Assumes nothing.
use Rattle.std.proofs.Common.{◌≡◌, ℕ, suc, ◌+◌, ◌-◌, ◌≤◌, Bool, true, false, List, [], ◌∷◌, ◌++◌, length, Some, None, Option, sym, refl, ap, ◌∙◌, subst, arith}
use Rattle.std.specs.List.{AllByRecursion}
use Rattle.std.proofs.lemmas.Bool.{leb-true}
use Rattle.store.specs.Tables.{Table}
use Rattle.machine.specs.declared.ending.Ending.{Ending}
use Rattle.machine.specs.declared.ending.Ending.TheVariants.{Finished, NoTableSpace}
use Rattle.machine.specs.Ending.{number_of}
use Rattle.machine.specs.Limits.{Limits}
use Rattle.machine.specs.Effects.{Effects}
use Rattle.machine.specs.Instr.{Program}
use Rattle.machine.specs.State as machine
use Rattle.machine.specs.State.{Registers, at, goes, ends, initial}
use Rattle.machine.proofs.Judge.{Has, none, more, Step, Run}
use Rattle.machine.proofs.Runs.{run-add, run_none, run-one, ended-stays}
use Rattle.machine.proofs.Exec.{end-ret}
use Rattle.grammar.specs.Tree.{Expr, Method}
use Rattle.rube.specs.Classes.{Classes, class_count}
use Rattle.rube.specs.Heap.{Setting, top_self, first_heap, fits}
use Rattle.rube.specs.Evaluation.{State, Res, unless, ◌>>=◌}
use Rattle.rube.specs.Meaning.{Ended, ended, eval_at, close, first, free_frames, meaning}
use Rattle.rube.specs.Bounds.{start_steps, step_bound}
use Rattle.compiler.specs.Layout.{slots, free}
use Rattle.compiler.specs.Pieces.{marks}
use Rattle.compiler.specs.Body.{compile, body_code}
use Rattle.compiler.specs.Whole.{start_code, close_code, main_code, program}
use Rattle.correctness.specs.Fitting.{MethodName}
use Rattle.correctness.specs.Spelled.{SpelledMethod, SpelledClass}
use Rattle.correctness.specs.Law.{Compilable, Law}
use Rattle.correctness.proofs.Relation.{shift, world, Globals}
use Rattle.correctness.proofs.Segments.{Seg, split, seg-end}
use Rattle.correctness.proofs.Following.{Sim, sval, send, sout, after, bind}
use Rattle.correctness.proofs.Registers.{keep_same}
use Rattle.correctness.proofs.Returning.{grows_same}
use Rattle.correctness.proofs.Judged.{Pre, next}
use Rattle.correctness.proofs.Slots.{body-begins}
use Rattle.correctness.proofs.Fitted.{method-name, slots-few, fitted}
use Rattle.correctness.proofs.Loaded.{main-loaded}
use Rattle.correctness.proofs.Orderly.{Orderly, MethodNames, accepted-orderly}
use Rattle.correctness.proofs.StartUp.{starting_steps, starts-up, fails-to-start, first-proper}
use Rattle.correctness.proofs.Closing.{Answered, close-then, close-returns}
use Rattle.correctness.proofs.Induction.{good-at, called_at}

-- a method that is spelled as an identifier has no key's name
names-of-methods : {A : Type 0} (ms : List (Method A)) → AllByRecursion SpelledMethod ms → AllByRecursion (λ m. MethodName m.name) ms
names-of-methods [] h = tt
names-of-methods (m ∷ ms) h = (method-name m.name h.0.0.0, names-of-methods ms h.1)

spelled-names : {A : Type 0} (P : Classes A) → AllByRecursion SpelledClass P → MethodNames P
spelled-names [] h = tt
spelled-names (K ∷ P) h = (names-of-methods K.methods h.0, spelled-names P h.1)

-- what may be compiled is in the order that the start-up code needs
pub compilable-orderly : {A : Type 0} {P : Classes A} {e : Expr A} → Compilable P e → Orderly P
compilable-orderly {P = P} w = accepted-orderly P w.accepted w.few (spelled-names P w.classes-spelled)

-- the built-in classes are there
five-classes : {A : Type 0} (P : Classes A) → 5 ≤ class_count P
five-classes P = omega arith

-- what becomes of a run whose clock was k: it ends so, in time and with an ending of the language; or it makes k steps and has not ended
pub data Fate {A : Type 0} (P : Classes A) (C : Program) (L : Limits) (m : machine.State) (k : ℕ) : Option Ended → Type 0 where
  comes-to : {r : Ended} (j : ℕ) (o : Effects) → Run C L j m (ends r.ending o) → o.output ≡ r.output → j ≤ step_bound P r.counted → number_of r.ending ≤ 12 → Fate P C L m k (Some r)
  goes_on : (j : ℕ) (m' : machine.State) → Run C L j m (goes m') → k ≤ j → Fate P C L m k None

-- a run that follows a result, and ends where that is a value
fate-of : {A : Type 0} {P : Classes A} {C : Program} {L : Limits} {G : Table} {k c q : ℕ} {m : machine.State} {Φ : Unit {0} → State → Registers → Type 0} {x : Res (Unit {0})}
    → suc c ≤ start_steps P → ((u : Unit {0}) (s : State) (R : Registers) → Φ u s R → Step C L (at 0 q R [] (world P G s)) (ends Finished s.effects))
    → Sim P C L G k m c 0 0 q [] Φ x → Fate P C L m k (ended x)
fate-of b κ (sval {v = u} {s = s} j R h l φ) = comes-to (j + 1) s.effects (run-add h (run-one (κ u s R φ))) refl (omega arith) (omega arith)
fate-of b κ (send {e = e} {s = s} j h l y) = comes-to j s.effects h refl (omega arith) (leb-true (number_of e) 12 y)
fate-of b κ (sout j m' h l) = goes_on j m' h l

module _ {A : Type 0} (P : Classes A) (e : Expr A) (L : Limits) (left : ℕ) (w : Compilable P e) where
  abbrev setting : Setting A
  setting = record { classes = P; limits = L }

  abbrev T : ℕ
  T = free (slots [] e)

  -- the rule's body and the closing, once the run has begun
  body-then : {p q q' : ℕ} (k : ℕ) (G : Table) (globals : Globals P G) (R : Registers) → fits setting first_heap 0 0 ≡ true → Has R 1 (shift P top_self) → Seg (program P e) 0 p (body_code P [] e ++ close_code P T) q → suc q' ≡ q
      → Sim P (program P e) L G (suc k) (at 0 p R [] (world P G (first left))) 316 0 0 q' [] (Answered P L (program P e) G globals (suc k) (eval_at setting k) T)
      (eval_at setting k top_self free_frames e (first left) >>= (λ v s. close setting (eval_at setting k) v s))
  body-then k G globals R f me g z =
      let C = program P e in
      let again = eval_at setting k in
      let followed = good-at P L e G globals w.accepted w.few w.classes-within w.classes-spelled k e in
      let called = called_at P L e G globals w.accepted w.few w.classes-within w.classes-spelled k in
      let x = split (body_code P [] e) (close_code P T) g in
      let y = split (marks 2 (length (slots [] e) - 0)) (compile P (slots [] e) e T) x.left in
      let few = slots-few w.rule-within in
      let b = body-begins {P = P} {C = C} {L = L} {S = []} {W = world P G (first left)} [] e top_self [] R y.left (omega arith) refl (more me none) in
      let h : Pre P L (slots [] e) top_self free_frames T [] b.0 first_heap b.0 (first left)
      = record { room = omega arith; frames = refl; stand = b.2; keep = keep_same; proper = first-proper P f; grows = grows_same P L } in
      after (length (slots [] e) - 0) b.1 (omega arith) (omega arith)
      (bind {c = 300} (followed.sim h (fitted w.rule-within w.rule-spelled) y.right)
      (λ v s R' φ. after 0 run_none (omega arith) (omega arith)
      (close-then P L C G globals (suc k) again called s v x.right z (next P L h φ) φ.got φ.fine (omega arith))))

  -- what becomes of the compiled rule at clock k: what its meaning at that clock says
  fate : (k : ℕ) → Fate P (program P e) L (initial left) (suc k) (ended (meaning setting left e k))
  unfolding meaning main_code
  fate k = by (fits setting first_heap 0 0) refl where
    C : Program
    C = program P e

    by : (b : Bool) → fits setting first_heap 0 0 ≡ b
        → Fate P C L (initial left) (suc k) (ended (unless NoTableSpace b (first left) (eval_at setting k top_self free_frames e (first left) >>= (λ v s. close setting (eval_at setting k) v s))))
    by false f =
        let x = split (start_code P) (body_code P [] e ++ close_code P T) (main-loaded P e).1 in
        let u = fails-to-start P left (compilable-orderly w) x.left f in
        let soon = u.soon in
        comes-to u.steps _ u.runs refl (omega arith) (omega arith)
    by true f =
        let x = split (start_code P) (body_code P [] e ++ close_code P T) (main-loaded P e).1 in
        let y = split (body_code P [] e) (close_code P T) x.right in
        let u = starts-up P left (compilable-orderly w) x.left f in
        let soon = u.soon in
        let many = five-classes P in
        let z : suc ((main-loaded P e).0 - 1) ≡ (main-loaded P e).0 = omega (arith, seg-end y.right) in
        fate-of {c = starting_steps P + 316} (omega arith)
        (λ v s R φ. end-ret (close-returns P L C u.globals u.globals-hold (suc k) (eval_at setting k) y.right z) φ.is refl)
        (after u.steps u.runs (omega arith) (omega arith) (body-then k u.globals u.globals-hold u.registers f u.self_in x.right z))

-- what an ended run says of its fate
record Same (x : Ending) (o : Effects) (y : Option Ended) : Type 0 where
  counted : ℕ
  is : y ≡ Some (record { ending = x; output = o.output; counted = counted })
  lawful : number_of x ≤ 12

-- a run that has ended has come to what its fate says
back-of : {A : Type 0} {P : Classes A} {C : Program} {L : Limits} {m : machine.State} {j : ℕ} {x : Ending} {o : Effects} {y : Option Ended} → Fate P C L m (suc j) y → Run C L j m (ends x o) → Same x o y
back-of {j = j} {x = x} {o = o} (comes-to {r = r} i p h same b l) g =
    let e : ends r.ending p ≡ ends x o = sym (ended-stays {j = i + j} h (omega arith)).is ∙ (ended-stays {j = i + j} g (omega arith)).is in
    let ex : r.ending ≡ x = cc in
    let eo : p ≡ o = cc in
    let out : r.output ≡ o.output = sym same ∙ ap (λ (z : Effects). z.output) eo in
    record { counted = r.counted; is = rw (← ex, ← out) refl; lawful = rw (← ex) l }
back-of {x = x} {o = o} (goes_on i m' h b) g =
    let e : goes m' ≡ ends x o = sym h.is ∙ (ended-stays {j = i} g (omega arith)).is in
    let z : ◌≡◌ {A = ℕ} 0 1 = cc in
    absurd (omega arith)

-- the run ends so within its bound
record InTime {A : Type 0} (P : Classes A) (C : Program) (L : Limits) (m : machine.State) (r : Ended) : Type 0 where
  effects : Effects
  runs : Run C L (step_bound P r.counted) m (ends r.ending effects)
  same : effects.output ≡ r.output

-- a fate that is an ending is met in time
forth-of : {A : Type 0} {P : Classes A} {C : Program} {L : Limits} {m : machine.State} {k : ℕ} {y : Option Ended} (r : Ended) → Fate P C L m k y → y ≡ Some r → InTime P C L m r
forth-of {P = P} {C = C} {L = L} {m = m} r (comes-to {r = r'} i p h same b l) e =
    let er : r' ≡ r = cc in
    subst (InTime P C L m) er (record { effects = p; runs = ended-stays h b; same = same })
forth-of r (goes_on i m' h b) e = let z : ◌≡◌ {A = ℕ} 0 1 = cc in absurd (omega arith)

-- a compiled rule does what its meaning says
pub law : {A : Type 0} → Law A
law P e L left w =
    let at-clock = fate P e L left w in
    record {
      same = λ j x o h. let b = back-of (at-clock j) (record { is = h }) in (b.counted, (j, b.is));
      never_stuck = λ j x o h. (back-of (at-clock j) (record { is = h })).lawful;
      in-time = λ r h. let t = forth-of r (at-clock h.0) h.1 in (t.effects, t.runs.is, t.same);
    }
