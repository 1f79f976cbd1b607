-- The registers of one frame among those of all, and the callers that they stand for.
use Rattle.std.proofs.Common.{◌≡◌, ℕ, zero, suc, ◌+◌, ◌-◌, ◌*◌, ◌<◌, ◌≤◌, List, [], ◌∷◌, ◌++◌, length, get_or, take, drop, set, Option, sym, refl, ap, ◌∙◌, arith}
use Rattle.std.proofs.lemmas.List.{take-take, drop-take, take_at, drop_at, take-set-le, drop-set-add, length-take-le, length-drop}
use Rattle.text.specs.Memory.{Memory}
use Rattle.store.specs.declared.value.Value.{Value}
use Rattle.machine.specs.Limits.{registers_per_frame}
use Rattle.machine.specs.State as machine
use Rattle.operands.specs.Slots.{registers_of}
use Rattle.calls.specs.declared.frame.Frame.{Frame}
use Rattle.calls.specs.Frames.{window, no_frame, callers_of}

module _ {X : Type 0} where
  window-front : (xs : List X) (k : ℕ) → drop (registers_per_frame * k) (take (registers_per_frame * k + registers_per_frame) xs) ≡ window xs k
  window-front xs k = drop-take (registers_per_frame * k) registers_per_frame xs

  -- a frame keeps its registers where the front is kept
  pub window-kept : (xs ys : List X) (n k : ℕ) → take n ys ≡ take n xs → registers_per_frame * k + registers_per_frame ≤ n → window ys k ≡ window xs k
  window-kept xs ys n k e l =
      sym (window-front ys k)
      ∙ ap (drop (registers_per_frame * k)) (sym (take-take (registers_per_frame * k + registers_per_frame) n ys l) ∙ ap (take (registers_per_frame * k + registers_per_frame)) e ∙ take-take (registers_per_frame * k + registers_per_frame) n xs l)
      ∙ window-front xs k

  pub length-window : (xs : List X) (k : ℕ) → registers_per_frame * k + registers_per_frame ≤ length xs → length (window xs k) ≡ registers_per_frame
  length-window xs k h = length-take-le registers_per_frame (drop (registers_per_frame * k) xs) (let d = length-drop (registers_per_frame * k) xs in omega arith)

  -- the part of a slice from a frame's base on is its window
  pub part-window : (xs : List X) (k : ℕ) → take (registers_per_frame * k + registers_per_frame - registers_per_frame * k) (drop (registers_per_frame * k) xs) ≡ window xs k
  part-window xs k = let e : registers_per_frame * k + registers_per_frame - registers_per_frame * k ≡ registers_per_frame = omega arith in ap (λ n. take n (drop (registers_per_frame * k) xs)) e

  -- what is put in the place of a frame's registers is its window
  pub window-put : (xs ys zs : List X) (at k : ℕ) → at ≡ registers_per_frame * k → at ≤ length xs → length ys ≡ registers_per_frame → window (take at xs ++ (ys ++ zs)) k ≡ ys
  window-put xs ys zs at k e h l =
      ap (take registers_per_frame) (drop_at (take at xs) (ys ++ zs) (registers_per_frame * k) (length-take-le at xs h ∙ e)) ∙ take_at ys zs registers_per_frame l

  take-set-any : (n i : ℕ) (xs : List X) (v : X) → take n (set xs i v) ≡ set (take n xs) i v
  take-set-any zero i xs v = refl
  take-set-any (suc n) i [] v = refl
  take-set-any (suc n) zero (x ∷ xs) v = refl
  take-set-any (suc n) (suc i) (x ∷ xs) v = ap (λ ys. x ∷ ys) (take-set-any n i xs v)

  -- a register of a frame is written
  pub window-set : (xs : List X) (k i : ℕ) (v : X) → window (set xs (registers_per_frame * k + i) v) k ≡ set (window xs k) i v
  window-set xs k i v = ap (take registers_per_frame) (drop-set-add (registers_per_frame * k) xs i v) ∙ take-set-any registers_per_frame i (drop (registers_per_frame * k) xs) v

  pub front-set : (xs : List X) (k i : ℕ) (v : X) → take (registers_per_frame * k) (set xs (registers_per_frame * k + i) v) ≡ take (registers_per_frame * k) xs
  front-set xs k i v = take-set-le (registers_per_frame * k) xs (registers_per_frame * k + i) v (omega arith)

-- callers stay where their frames and registers do
pub callers-kept : (m : Memory) (xs ys : List (Option Value)) (fs gs : List Frame) (n : ℕ) → take (registers_per_frame * n) ys ≡ take (registers_per_frame * n) xs → ((j : ℕ) → j < n → get_or gs j no_frame ≡ get_or fs j no_frame) → callers_of m ys gs n ≡ callers_of m xs fs n
unfolding callers_of
callers-kept m xs ys fs gs zero e h = refl
callers-kept m xs ys fs gs (suc n) e h =
    let f = h n (omega arith) in
    let w = window-kept xs ys (registers_per_frame * suc n) n e (omega arith) in
    let below : take (registers_per_frame * n) ys ≡ take (registers_per_frame * n) xs = sym (take-take (registers_per_frame * n) (registers_per_frame * suc n) ys (omega arith)) ∙ ap (take (registers_per_frame * n)) e ∙ take-take (registers_per_frame * n) (registers_per_frame * suc n) xs (omega arith) in
    (λ i. machine.frame (f i).function.0 (f i).pc.0 (registers_of m (w i)) ∷ callers-kept m xs ys fs gs n below (λ j l. h j (omega arith)) i)

pub length-callers : (m : Memory) (xs : List (Option Value)) (fs : List Frame) (n : ℕ) → length (callers_of m xs fs n) ≡ n
unfolding callers_of
length-callers m xs fs zero = refl
length-callers m xs fs (suc n) = ap suc (length-callers m xs fs n)

-- a frame's registers as they are lent
abbrev pub part : {X : Type 0} → List X → ℕ → List X
part xs k = take (registers_per_frame * k + registers_per_frame - registers_per_frame * k) (drop (registers_per_frame * k) xs)
