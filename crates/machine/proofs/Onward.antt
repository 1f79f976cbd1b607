-- Each step leads onward: frames, tables, and what is made and printed.
use Rattle.std.proofs.Common.{◌≡◌, ℕ, zero, suc, ◌-◌, ◌<◌, ◌≤◌, Bool, true, false, cond, ltb, ◌⊎◌, List, [], ◌∷◌, ◌++◌, length, get_or, ℤ, pos, ◌+ℤ◌, is_some, Some, None, Ok, Err, Option, Result, sym, refl, ap, ◌∙◌, subst, inl, inr, ⊎_elim, arith}
use Rattle.std.proofs.lemmas.List.{append-nil, append_assoc, length-append, length-set, get_or_append_left, get_or_past, get_or-set_same, get_or-set_other, set_past}
use Rattle.std.proofs.lemmas.Bool.{leb-true, cases_eq, cases_lt, false≢true}
use Rattle.store.specs.Val.{Val, equal_val}
use Rattle.store.specs.Tables as store
use Rattle.store.specs.Tables.{Table, Tables, look, put}
use Rattle.machine.specs.declared.ending.Ending.{Ending}
use Rattle.machine.specs.declared.ending.Ending.TheVariants.{NoTableSpace, Stuck}
use Rattle.machine.specs.declared.builtin.Builtin.{Builtin}
use Rattle.machine.specs.declared.builtin.Builtin.TheVariants.{PrintValue, ToS, Concat, Length}
use Rattle.machine.specs.Limits.{Limits, registers_per_frame}
use Rattle.machine.specs.Outcome.{Outcome, ◌>>=◌, need, unless}
use Rattle.machine.specs.Effects.{Effects, charged, printed, charge, print}
use Rattle.machine.specs.Builtin.{apply, make, one, two, shown, integer_in, string_in, builtin_of}
use Rattle.machine.specs.Instr.{Instr, Program, fetch, answer_register}
use Rattle.machine.specs.State.{Registers, Frame, frame, World, State, at, world_of, Next, goes, ends}
use Rattle.machine.specs.Operands.{value_at, table_at, function_at, values_from, is_zero}
use Rattle.machine.specs.Step.{landing, into, jump, set_global, make_table, set_key, invoke, return, exec, next_of, step}
use Rattle.machine.specs.Run.{then, run}
use Rattle.machine.specs.Law.{Grows, Keeps, within, enters, leaves, Onward, Determined, LeadsOnward, EndsWithout, effects_of, RunsGrow}

-- P holds of the result, if there is one
pub data Each {A : Type 0} (P : A → Type 0) : Result A Ending → Type 0 where
  holds : {x : A} → P x → Each P (Ok x)
  ended : {e : Ending} → Each P (Err e)

module _ {A : Type 0} {P : A → Type 0} where
  each-unless : (e : Ending) (b : Bool) {x : Outcome A} → (b ≡ true → Each P x) → Each P (unless e b x)
  each-unless e true h = h refl
  each-unless e false h = ended

  each-cond : (b : Bool) {x y : Outcome A} → Each P x → Each P y → Each P (cond b x y)
  each-cond true h k = h
  each-cond false h k = k

  each-bind : {B : Type 0} {Q : B → Type 0} {x : Outcome B} {f : B → Outcome A} → Each Q x → ((b : B) → Q b → Each P (f b)) → Each P (x >>= f)
  each-bind (holds {x = b} h) k = k b h
  each-bind ended k = ended

  -- whatever the first result is
  each_after : {B : Type 0} (x : Outcome B) {f : B → Outcome A} → ((b : B) → Each P (f b)) → Each P (x >>= f)
  each_after (Ok b) k = k b
  each_after (Err e) k = ended

  each-is : {x : Outcome A} {y : A} → Each P x → x ≡ Ok y → P y
  each-is {y = y} (holds {x = x} h) e = let q : x ≡ y = cc in subst P q h
  each-is (ended {e = c}) e = let z : ◌≡◌ {A = ℕ} 0 1 = cc in absurd (omega arith)

-- effects
pub grows-not : (o : Effects) → Grows o o
grows-not o =
    record { more-strings = omega arith; more_bytes = omega arith; more-output = ([], sym (append-nil o.output)); within-output = refl }

pub grows-on : {o p q : Effects} → Grows o p → Grows p q → Grows o q
grows-on {o} {p} {q} g h =
    record {
      more-strings = omega (arith, g.more-strings, h.more-strings);
      more_bytes = omega (arith, g.more_bytes, h.more_bytes);
      more-output = (g.more-output.0 ++ h.more-output.0, h.more-output.1 ∙ rw g.more-output.1 (append_assoc o.output g.more-output.0 h.more-output.0));
      within-output = h.within-output ∙ g.within-output;
    }

charged-grows : (n : ℕ) (o : Effects) → Grows o (charged n o)
charged-grows n o =
    record { more-strings = omega arith; more_bytes = omega arith; more-output = ([], sym (append-nil o.output)); within-output = refl }

printed-grows : (s : List ℕ) (o : Effects) → length s ≤ o.left → Grows o (printed s o)
printed-grows s o h =
    record {
      more-strings = omega arith;
      more_bytes = omega arith;
      more-output = (s, refl);
      within-output = simp length-append (omega arith);
    }

charge-grows : (n : ℕ) (o : Effects) → Each (Grows o) (charge n o)
unfolding charge
charge-grows n o = each-unless _ _ (λ e. holds (charged-grows n o))

print-grows : (s : List ℕ) (o : Effects) → Each (Grows o) (print s o)
unfolding print
print-grows s o = each-unless _ _ (λ e. holds (printed-grows s o (leb-true (length s) o.left e)))

make-grows : (s : List ℕ) (o : Effects) → Each (λ r. Grows o r.1) (make s o)
make-grows s o = each-bind (charge-grows (length s) o) (λ p g. holds g)

apply-grows : (b : Builtin) (vs : List Val) (o : Effects) → Each (λ r. Grows o r.1) (apply b vs o)
unfolding apply
apply-grows PrintValue vs o =
    each-bind (each_after (one vs >>= shown) (λ s. print-grows s o)) (λ p g. holds g)
apply-grows ToS vs o = each_after (one vs >>= integer_in) (λ n. make-grows _ o)
apply-grows Concat vs o =
    each_after (two vs) (λ p. each_after (string_in p.0) (λ s. each_after (string_in p.1) (λ t. make-grows _ o)))
apply-grows Length vs o = each_after (one vs >>= string_in) (λ s. holds (grows-not o))

-- tables
keeps-all : (T : Tables) → Keeps T T
keeps-all T = record { tables-stay = omega arith; keys-stay = λ l k h. h }

put-stays : (k v q : Val) (t : Table) → is_some (look q t) ≡ true → is_some (look q (put k v t)) ≡ true
unfolding look put
put-stays k v q [] h = absurd (false≢true h)
put-stays k v q (p ∷ ps) h = elim (equal_val p.0 k) as (λ b. is_some (look q (cond b ((p.0, v) ∷ ps) (p ∷ put k v ps))) ≡ true) [ true ↦ replaced (equal_val p.0 q) h | false ↦ later (equal_val p.0 q) h (put-stays k v q ps) ]
  where
    replaced : (b : Bool) → is_some (cond b (Some p.1) (look q ps)) ≡ true → is_some (cond b (Some v) (look q ps)) ≡ true
    replaced true e = refl
    replaced false e = e

    later : (b : Bool) → is_some (cond b (Some p.1) (look q ps)) ≡ true → (is_some (look q ps) ≡ true → is_some (look q (put k v ps)) ≡ true) → is_some (cond b (Some p.1) (look q (put k v ps))) ≡ true
    later true e r = refl
    later false e r = r e

keeps-made : (T : Tables) → Keeps T (T ++ [] ∷ [])
unfolding look
keeps-made T = record { tables-stay = simp length-append (omega arith); keys-stay = λ l k h. ⊎_elim (λ b. rw (get_or_append_left T ([] ∷ []) [] l b) h) (λ b. absurd (false≢true (rw (get_or_past T l [] b) at h))) (cases_lt l (length T)) }

keeps-written : (T : Tables) (l : ℕ) (k v : Val) → Keeps T (store.write T l k v)
keeps-written T l k v =
    record {
      tables-stay = simp length-set (omega arith);
      keys-stay = λ p q h. ⊎_elim (λ e. there p q e h (cases_lt l (length T))) (λ n. rw (get_or-set_other T l p (put k v (get_or T l [])) [] n) h) (cases_eq p l);
    }
  where
    there : (p : ℕ) (q : Val) → p ≡ l → is_some (store.read T p q) ≡ true → (l < length T) ⊎ (length T ≤ l) → is_some (store.read (store.write T l k v) p q) ≡ true
    there p q e h (inl b) = rw (e, get_or-set_same T l (put k v (get_or T l [])) [] b) (put-stays k v q (get_or T l []) (rw e at h))
    there p q e h (inr b) = rw (set_past T l (put k v (get_or T l [])) b) h

-- frames
same-frame : {f pc pc' : ℕ} {R R' : Registers} {S : List Frame} {W : World} → Onward (at f pc R S W) (at f pc' R' S W)
same-frame {W = W} = record { frames = within; tables = keeps-all W.tables; effects = grows-not W.effects }

into-onward : (a : ℕ) (x : Outcome Val) (m : State) → Each (Onward m) (into a x m)
into-onward a x (at f pc R S W) = each-unless _ _ (λ e. each_after x (λ v. holds same-frame))

jump-onward : (n : ℤ) (m : State) → Each (Onward m) (jump n m)
jump-onward n (at f pc R S W) = each_after (landing (pos (suc pc) +ℤ n)) (λ p. holds same-frame)

set_global-onward : (g : ℕ) (v : Val) (m : State) → Each (Onward m) (set_global g v m)
set_global-onward g v (at f pc R S W) =
    each-unless _ _ (λ e. holds record { frames = within; tables = keeps-all W.tables; effects = grows-not W.effects })

make_table-onward : (L : Limits) (a : ℕ) (m : State) → Each (Onward m) (make_table L a m)
make_table-onward L a (at f pc R S W) =
    each-unless Stuck (ltb a registers_per_frame)
    (λ e. each-unless NoTableSpace (ltb (length W.tables) L.tables) (λ e. holds record { frames = within; tables = keeps-made W.tables; effects = grows-not W.effects }))

set_key-onward : (L : Limits) (l : ℕ) (k v : Val) (m : State) → Each (Onward m) (set_key L l k v m)
set_key-onward L l k v (at f pc R S W) =
    each-unless _ _ (λ e. holds record { frames = within; tables = keeps-written W.tables l k v; effects = grows-not W.effects })

invoke-onward : (b : Option Builtin) (g a : ℕ) (vs : List Val) (m : State) → Each (Onward m) (invoke b g a vs m)
invoke-onward (Some b) g a vs (at f pc R S W) =
    each-bind (apply-grows b vs W.effects) (λ r h. holds record { frames = within; tables = keeps-all W.tables; effects = h })
invoke-onward None g a vs (at f pc R S W) =
    each-unless _ _ (λ e. holds record { frames = enters; tables = keeps-all W.tables; effects = grows-not W.effects })

return-onward : (P : Program) (v : Val) (f pc : ℕ) (R : Registers) (S : List Frame) (W : World) → Each (Onward (at f pc R S W)) (return P v S W)
return-onward P v f pc R [] W = ended
return-onward P v f pc R (frame g p Q ∷ S) W =
    each_after (need (fetch P g p) >>= (λ i. need (answer_register i)))
    (λ a. each-unless _ _ (λ e. holds record { frames = leaves a v; tables = keeps-all W.tables; effects = grows-not W.effects }))

exec-onward : (P : Program) (L : Limits) (i : Instr) (m : State) → Each (Onward m) (exec P L i m)
unfolding exec
exec-onward P L (Instr.const a v) m = into-onward a (Ok v) m
exec-onward P L (Instr.mov a b) (at f pc R S W) = into-onward a _ (at f pc R S W)
exec-onward P L (Instr.arith o a b c) (at f pc R S W) = into-onward a _ (at f pc R S W)
exec-onward P L (Instr.eq a b c) (at f pc R S W) = into-onward a _ (at f pc R S W)
exec-onward P L (Instr.ordered o a b c) (at f pc R S W) = into-onward a _ (at f pc R S W)
exec-onward P L (Instr.is_kind k a b) (at f pc R S W) = into-onward a _ (at f pc R S W)
exec-onward P L (Instr.jmp n) m = jump-onward n m
exec-onward P L (Instr.if_zero a n) (at f pc R S W) =
    each_after (value_at R a) (λ x. each-cond (is_zero x) (jump-onward n (at f pc R S W)) (holds same-frame))
exec-onward P L (Instr.rd_glob a g) (at f pc R S W) = into-onward a _ (at f pc R S W)
exec-onward P L (Instr.wr_glob g a) (at f pc R S W) =
    each_after (value_at R a) (λ v. set_global-onward g v (at f pc R S W))
exec-onward P L (Instr.mk_tab a) m = make_table-onward L a m
exec-onward P L (Instr.rd_tab a b c) (at f pc R S W) = into-onward a _ (at f pc R S W)
exec-onward P L (Instr.wr_tab a b c) (at f pc R S W) =
    each_after (table_at W.tables R a)
    (λ l. each_after (value_at R b) (λ k. each_after (value_at R c) (λ v. set_key-onward L l k v (at f pc R S W))))
exec-onward P L (Instr.has_tab a b c) (at f pc R S W) = into-onward a _ (at f pc R S W)
exec-onward P L (Instr.call a first last) (at f pc R S W) =
    each_after (function_at R a)
    (λ g. each_after (values_from R first (suc last - first)) (λ vs. invoke-onward (builtin_of g) g first vs (at f pc R S W)))
exec-onward P L (Instr.ret a) (at f pc R S W) = each_after (value_at R a) (λ v. return-onward P v f pc R S W)
exec-onward P L (Instr.halt a) (at f pc R S W) = each_after (value_at R a) (λ v. ended)

-- what a step may lead to
data Next-of (m : State) : Next → Type 0 where
  on : {n : State} → Onward m n → Next-of m (goes n)
  no : {e : Ending} → Next-of m (ends e (world_of m).effects)

next-onward : {f pc : ℕ} {R : Registers} {S : List Frame} {W : World} {x : Outcome State} → Each (Onward (at f pc R S W)) x → Next-of (at f pc R S W) (next_of W.effects x)
next-onward (holds h) = on h
next-onward ended = no

step-onward : (P : Program) (L : Limits) (m : State) → Next-of m (step P L m)
unfolding step
step-onward P L (at f pc R S W) = next-onward (each_after (need (fetch P f pc)) (λ i. exec-onward P L i (at f pc R S W)))

pub leads-onward : LeadsOnward
leads-onward P L m n e = given (step-onward P L m) e
  where
    given : {x : Next} → Next-of m x → x ≡ goes n → Onward m n
    given (on {n = k} h) e = let q : k ≡ n = cc in subst (Onward m) q h
    given no e = let z : ◌≡◌ {A = ℕ} 0 1 = cc in absurd (omega arith)

pub ends-without : EndsWithout
ends-without P L m c o e = given (step-onward P L m) e
  where
    given : {x : Next} → Next-of m x → x ≡ ends c o → o ≡ (world_of m).effects
    given (on h) e = let z : ◌≡◌ {A = ℕ} 0 1 = cc in absurd (omega arith)
    given no e = cc

grows_then : (P : Program) (L : Limits) (n : ℕ) {m : State} {x : Next} → ((k : State) → Grows (world_of k).effects (effects_of (run P L n k))) → Next-of m x → Grows (world_of m).effects (effects_of (then x (run P L n)))
grows_then P L n rec (on {n = k} h) = grows-on h.effects (rec k)
grows_then P L n {m} rec no = grows-not (world_of m).effects

pub runs_grow : RunsGrow
unfolding run
runs_grow P L zero m = grows-not (world_of m).effects
runs_grow P L (suc n) m = grows_then P L n (runs_grow P L n) (step-onward P L m)

bind-cong : {A B : Type 0} (x : Outcome A) {f g : A → Outcome B} → ((a : A) → f a ≡ g a) → (x >>= f) ≡ (x >>= g)
bind-cong (Ok a) h = h a
bind-cong (Err e) h = refl

return-same : (P Q : Program) → ((f pc : ℕ) → fetch P f pc ≡ fetch Q f pc) → (v : Val) (S : List Frame) (W : World) → return P v S W ≡ return Q v S W
return-same P Q h v [] W = refl
return-same P Q h v (frame f pc R ∷ S) W = rw (h f pc)

determined-by : (P Q : Program) (L : Limits) → ((f pc : ℕ) → fetch P f pc ≡ fetch Q f pc) → (i : Instr) (m : State) → exec P L i m ≡ exec Q L i m
unfolding exec
determined-by P Q L h (Instr.const a v) m = refl
determined-by P Q L h (Instr.mov a b) (at f pc R S W) = refl
determined-by P Q L h (Instr.arith o a b c) (at f pc R S W) = refl
determined-by P Q L h (Instr.eq a b c) (at f pc R S W) = refl
determined-by P Q L h (Instr.ordered o a b c) (at f pc R S W) = refl
determined-by P Q L h (Instr.is_kind k a b) (at f pc R S W) = refl
determined-by P Q L h (Instr.jmp n) m = refl
determined-by P Q L h (Instr.if_zero a n) (at f pc R S W) = refl
determined-by P Q L h (Instr.rd_glob a g) (at f pc R S W) = refl
determined-by P Q L h (Instr.wr_glob g a) (at f pc R S W) = refl
determined-by P Q L h (Instr.mk_tab a) m = refl
determined-by P Q L h (Instr.rd_tab a b c) (at f pc R S W) = refl
determined-by P Q L h (Instr.wr_tab a b c) (at f pc R S W) = refl
determined-by P Q L h (Instr.has_tab a b c) (at f pc R S W) = refl
determined-by P Q L h (Instr.call a first last) (at f pc R S W) = refl
determined-by P Q L h (Instr.ret a) (at f pc R S W) = bind-cong (value_at R a) (λ v. return-same P Q h v S W)
determined-by P Q L h (Instr.halt a) (at f pc R S W) = refl

pub determined : Determined
unfolding step
determined P Q L (at f pc R S W) h =
    rw (h f pc)
    (ap (next_of W.effects) (bind-cong (need (fetch Q f pc)) (λ i. determined-by P Q L h i (at f pc R S W))))
