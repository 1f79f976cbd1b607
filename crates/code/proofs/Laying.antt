-- Laying a record, landing a jump, finishing a function: what they do to the code that stands.
use Rattle.std.proofs.Common.{◌≡◌, ℕ, zero, suc, ◌+◌, ◌-◌, ◌^◌, ◌<◌, ◌≤◌, List, All, [], ◌∷◌, ◌++◌, map, length, get_or, take, drop, set, pos, sym, refl, ap, ◌∙◌, subst, arith, w32, to_z}
use borrow.Author.Differences.{ints}
use Rattle.std.proofs.lemmas.List.{length-set, length-drop, take-set-le, take_more_set, drop-set-add, map-set, map_push, set_past}
use Rattle.std.proofs.lemmas.List.Elements.{All-push, All-weaker}
use Rattle.text.specs.Memory.{Memory}
use Rattle.machine.specs.Instr.{Instr, Program}
use Rattle.code.specs.declared.table.Record.{Record}
use Rattle.code.specs.declared.table.Extent.{Extent}
use Rattle.code.specs.declared.table.Open.{Open}
use Rattle.code.specs.Programs.{meant, code_at, program_at}
use Rattle.code.specs.Laying.{origin, end_of, Lays}
use Rattle.code.proofs.Fetching.{length-code}

-- a record written behind a function leaves its code
code-before : (m : Memory) (xs : List Record) (e : Extent) (k : ℕ) (x : Record) → end_of e ≤ k → code_at m (set xs k x) e ≡ code_at m xs e
unfolding code_at
code-before m xs e k x h =
    let j : k ≡ e.start + (k - e.start) = omega arith in
    ap (λ i. map (meant m) (take e.len (drop e.start (set xs i x)))) j
    ∙ ap (λ ys. map (meant m) (take e.len ys)) (drop-set-add e.start xs (k - e.start) x)
    ∙ ap (map (meant m)) (take-set-le e.len (drop e.start xs) (k - e.start) x (omega arith))

-- and so all functions
functions-before : (m : Memory) (xs : List Record) (k : ℕ) (x : Record) (es : List Extent) → All (λ (e : Extent). end_of e ≤ k) es → map (code_at m (set xs k x)) es ≡ map (code_at m xs) es
functions-before m xs k x [] h = refl
functions-before m xs k x (e ∷ es) h =
    ap (λ c. c ∷ map (code_at m (set xs k x)) es) (code-before m xs e k x (h 0 e (omega arith)))
    ∙ ap (λ cs. code_at m xs e ∷ cs) (functions-before m xs k x es (λ i d l. h (suc i) d (omega arith)))

-- a record directly behind a function makes it longer by one
code-more : (m : Memory) (xs : List Record) (s n : ℕ) (x : Record) → s + n < length xs → code_at m (set xs (s + n) x) (record { start = s; len = n + 1 }) ≡ code_at m xs (record { start = s; len = n }) ++ meant m x ∷ []
unfolding code_at
code-more m xs s n x h =
    ap (λ ys. map (meant m) (take (n + 1) ys)) (drop-set-add s xs n x)
    ∙ ap (map (meant m)) (take_more_set (drop s xs) n x (let d = length-drop s xs in omega arith))
    ∙ map_push (meant m) (take n (drop s xs)) x

take-set : {X : Type 0} (n : ℕ) (xs : List X) (i : ℕ) (x : X) → take n (set xs i x) ≡ set (take n xs) i x
take-set zero xs i x = refl
take-set (suc n) [] i x = refl
take-set (suc n) (y ∷ xs) zero x = refl
take-set (suc n) (y ∷ xs) (suc i) x = ap (λ ys. y ∷ ys) (take-set n xs i x)

-- a record within a function is replaced
code-set : (m : Memory) (xs : List Record) (e : Extent) (i : ℕ) (x : Record) → code_at m (set xs (e.start + i) x) e ≡ set (code_at m xs e) i (meant m x)
unfolding code_at
code-set m xs e i x =
    ap (λ ys. map (meant m) (take e.len ys)) (drop-set-add e.start xs i x)
    ∙ ap (map (meant m)) (take-set e.len (drop e.start xs) i x)
    ∙ map-set (meant m) (take e.len (drop e.start xs)) i x

-- another instruction leaves the origins
pub origins-kept : (xs : List Record) (k : ℕ) (d x : Record) → x.origin ≡ (get_or xs k d).origin → map origin (set xs k x) ≡ map origin xs
origins-kept [] k d x e = refl
origins-kept (y ∷ xs) zero d x e = ap (λ o. o ∷ map origin xs) e
origins-kept (y ∷ xs) (suc k) d x e = ap (λ os. y.origin ∷ os) (origins-kept xs k d x e)

-- a distance as the code computes it
pub distance : (n i k : ℕ) → n ≤ 2 ^ 31 - 1 → i < n → n ≡ k → to_z w32 (n - i - 1) ≡ pos (k - suc i)
distance n i k a b e = omega (arith, ints)

module _ {m : Memory} {xs : List Record} {o : Open} {P : Program} {c : List Instr} (l : Lays m xs o P c) where
  -- nothing finished reaches behind the start of the function under way
  before : (k : ℕ) → o.current.start ≤ k → (x : Record) → program_at m (set xs k x) o.finished.items ≡ P
  unfolding program_at
  before k h x =
      functions-before m xs k x o.finished.items
      (All-weaker (λ (e : Extent). end_of e ≤ o.current.start) (λ (e : Extent). end_of e ≤ k) (λ e q. omega arith) _ l.apart)
      ∙ l.finished

  pub length-laid : o.current.len ≡ length c
  length-laid =
      let n = length-code m xs o.current in let d = length-drop o.current.start xs in
      let i = l.inside in
      let e : length (code_at m xs o.current) ≡ length c = ap length l.current in omega arith

  -- p has the functions of o, and one record more of the one under way
  pub laid : (p : Open) (x : Record) → p.finished.items ≡ o.finished.items → p.current ≡ record { start = o.current.start; len = o.current.len + 1 } → end_of o.current < length xs → Lays m (set xs (end_of o.current) x) p P (c ++ meant m x ∷ [])
  laid p x f g h =
      record {
        finished = rw f (before (end_of o.current) (omega arith) x);
        current = rw g (code-more m xs o.current.start o.current.len x h ∙ ap (λ d. d ++ meant m x ∷ []) l.current);
        apart = rw (f, g) l.apart;
        inside = rw g (let n = length-set xs (end_of o.current) x in omega arith);
      }

  pub landed : (i : ℕ) (x : Record) (j : Instr) → meant m x ≡ j → Lays m (set xs (o.current.start + i) x) o P (set c i j)
  landed i x j e =
      record {
        finished = before (o.current.start + i) (omega arith) x;
        current = code-set m xs o.current i x ∙ ap (λ d. set d i (meant m x)) l.current ∙ ap (set c i) e;
        apart = l.apart;
        inside = let n = length-set xs (o.current.start + i) x in let b = l.inside in omega arith;
      }

  -- a place behind the code is none
  pub landed-nowhere : (i : ℕ) (j : Instr) → o.current.len ≤ i → Lays m xs o P (set c i j)
  landed-nowhere i j h =
      subst (Lays m xs o P) (sym (set_past c i j (let n = length-laid in omega arith))) l

  -- one function more
  pub more-functions : (es : List Extent) → es ≡ o.finished.items ++ o.current ∷ [] → program_at m xs es ≡ P ++ c ∷ []
  unfolding program_at
  more-functions es e =
      rw e
      (map_push (code_at m xs) o.finished.items o.current
      ∙ ap (λ Q. Q ++ code_at m xs o.current ∷ []) l.finished
      ∙ ap (λ d. P ++ d ∷ []) l.current)

  pub begun : (p : Open) → p.finished.items ≡ o.finished.items ++ o.current ∷ [] → p.current ≡ record { start = end_of o.current; len = 0 } → Lays m xs p (P ++ c ∷ []) []
  unfolding code_at
  begun p f g =
      record {
        finished = more-functions p.finished.items f;
        current = rw g refl;
        apart = rw (f, g)
            (All-push (λ (e : Extent). end_of e ≤ end_of o.current) o.finished.items o.current
            (All-weaker (λ (e : Extent). end_of e ≤ o.current.start) (λ (e : Extent). end_of e ≤ end_of o.current) (λ e q. omega arith) _ l.apart) (omega arith));
        inside = rw g (let b = l.inside in omega arith);
      }
