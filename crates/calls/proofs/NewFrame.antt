-- What a call passes, and the frame that it enters.
use Rattle.std.proofs.Common.{◌≡◌, ℕ, zero, suc, ◌+◌, ◌-◌, ◌*◌, ◌<◌, ◌≤◌, true, false, ◌⊎◌, List, [], ◌∷◌, ◌++◌, map, length, get_or, take, drop, replicate, is_some, Some, None, Ok, Err, Option, sym, refl, ap, ◌∙◌, subst, inl, inr, add-one, arith}
use Rattle.std.proofs.lemmas.List.{drop_more, map-append, length-append, length-take-le, length-drop, take-take, drop-take, drop-drop, length-replicate, get_or_past, get_or_push, get_or_append_left, get_or-append_right, get_or-take, get_or-drop}
use Rattle.std.proofs.lemmas.Bool.{cases_eq, cases_lt, lt-ltb, le-ltb}
use Rattle.std.specs.List.{list_all}
use Rattle.text.specs.Memory.{Memory}
use Rattle.store.specs.declared.value.Value.{Value}
use Rattle.store.specs.Val.{Val, meaning}
use Rattle.store.specs.Answers.{meant}
use Rattle.machine.specs.declared.ending.Ending.{Ending}
use Rattle.machine.specs.declared.ending.Ending.TheVariants.{Stuck, NoFrameSpace}
use Rattle.machine.specs.Limits.{registers_per_frame, most_frames}
use Rattle.machine.specs.Outcome.{Outcome, ◌>>=◌, need}
use Rattle.machine.specs.State.{Registers, read, passed, World, State, at}
use Rattle.machine.specs.State as machine
use Rattle.machine.specs.Operands.{value_at, values_from}
use Rattle.operands.specs.Slots.{registers_of, slot_end, Within}
use Rattle.operands.proofs.Slots.{read-slot}
use Rattle.calls.specs.declared.frame.Frame.{Frame}
use Rattle.calls.specs.Applying.{arguments_at}
use Rattle.calls.specs.Passing.{laid, handed}
use Rattle.calls.specs.Frames.{window, no_frame, callers_of, state_at, LiveIn, enter_from}
use Rattle.calls.proofs.Laying.{take-laid}
use Rattle.calls.proofs.Windows.{window-kept, window-put, callers-kept, length-callers}

none-some : {A : Type 0} → false ≡ true → A
none-some e = let z : ◌≡◌ {A = ℕ} 0 1 = cc in absurd (omega arith)

-- each of some registers that are all set is set, and else one is not
each-set : (xs : List (Option Value)) (k : ℕ) → list_all is_some xs ≡ true → k < length xs → is_some (get_or xs k None) ≡ true
each-set [] k e l = absurd (omega arith)
each-set (None ∷ xs) k e l = none-some e
each-set (Some v ∷ xs) zero e l = refl
each-set (Some v ∷ xs) (suc k) e l = each-set xs k e (omega arith)

one-unset : (xs : List (Option Value)) → list_all is_some xs ≡ false → (k : ℕ) × (k < length xs) × (is_some (get_or xs k None) ≡ false)
one-unset [] e = none-some (sym e)
one-unset (None ∷ xs) e = (0, omega arith, refl)
one-unset (Some v ∷ xs) e = let h = one-unset xs e in (suc h.0, (let l = h.1 in omega arith), h.2)

-- a register that is set is one of the frame
set_there : (xs : List (Option Value)) (k : ℕ) → is_some (get_or xs k None) ≡ true → k < length xs
set_there xs k h = by (cases_lt k (length xs)) where
  by : (k < length xs) ⊎ (length xs ≤ k) → k < length xs
  by (inl l) = l
  by (inr g) = none-some (sym (ap is_some (get_or_past xs k None g)) ∙ h)

module _ (m : Memory) (xs : List (Option Value)) where
  -- registers that are all set have values
  pub all-values : (n from : ℕ) → ((k : ℕ) → from ≤ k → k < from + n → is_some (get_or xs k None) ≡ true) → (vs : List Val) × (values_from (registers_of m xs) from n ≡ Ok vs) × (map Some vs ≡ registers_of m (take n (drop from xs))) × (length vs ≡ n)
  unfolding values_from registers_of
  all-values zero from h = ([], refl, refl, refl)
  all-values (suc n) from h =
      let here = h from (omega arith) (omega arith) in
      let low = set_there xs from here in
      let rest = all-values n (suc from) (λ k a b. h k (omega arith) (omega arith)) in
      by (get_or xs from None) refl here low rest
    where
      by : (o : Option Value) → get_or xs from None ≡ o → is_some (get_or xs from None) ≡ true → from < length xs → ((vs : List Val) × (values_from (registers_of m xs) (suc from) n ≡ Ok vs) × (map Some vs ≡ registers_of m (take n (drop (suc from) xs))) × (length vs ≡ n)) → (vs : List Val) × (values_from (registers_of m xs) from (suc n) ≡ Ok vs) × (map Some vs ≡ registers_of m (take (suc n) (drop from xs))) × (length vs ≡ suc n)
      by None e s l r = none-some (sym (ap is_some e) ∙ s)
      by (Some v) e s l (vs, p, q, z) =
          let here : read (registers_of m xs) from ≡ Some (meaning m v) = read-slot m xs from ∙ ap (meant m) e in
          let d : drop from xs ≡ Some v ∷ drop (suc from) xs = drop_more xs from None l ∙ (λ i. e i ∷ drop (add-one from i) xs) in (
            meaning m v ∷ vs,
            ap (λ (o : Option Val). need o >>= (λ w. values_from (registers_of m xs) (suc from) n >>= (λ ws. Ok (w ∷ ws)))) here ∙ ap (λ (o : Outcome (List Val)). o >>= (λ ws. Ok (meaning m v ∷ ws))) p,
            ap (λ (ws : List (Option Val)). Some (meaning m v) ∷ ws) q ∙ sym (ap (λ (z : List (Option Value)). map (meant m) (take (suc n) z)) d),
            ap suc z,
          )

  -- one that is not set is stuck
  pub some-missing : (n from k : ℕ) → from ≤ k → k < from + n → is_some (get_or xs k None) ≡ false → values_from (registers_of m xs) from n ≡ Err Stuck
  unfolding values_from
  some-missing zero from k a b h = absurd (omega arith)
  some-missing (suc n) from k a b h = by (cases_eq k from) (λ d. some-missing n (suc from) k (omega arith) (omega arith) h) where
    stuck : (o : Option Val) → (need o >>= (λ v. Err Stuck >>= (λ vs. Ok (v ∷ vs)))) ≡ Err Stuck
    stuck None = refl
    stuck (Some v) = refl

    none : (o : Option Value) → is_some o ≡ false → meant m o ≡ None
    none None e = refl
    none (Some v) e = none-some (sym e)

    by : (k ≡ from) ⊎ (k ≡ from → ⊥) → ((k ≡ from → ⊥) → values_from (registers_of m xs) (suc from) n ≡ Err Stuck) → values_from (registers_of m xs) from (suc n) ≡ Err Stuck
    by (inl e) r = ap (λ (o : Option Val). need o >>= (λ w. values_from (registers_of m xs) (suc from) n >>= (λ ws. Ok (w ∷ ws)))) (ap (read (registers_of m xs)) (sym e) ∙ read-slot m xs k ∙ none (get_or xs k None) h)
    by (inr d) r = ap (λ (o : Outcome (List Val)). value_at (registers_of m xs) from >>= (λ w. o >>= (λ ws. Ok (w ∷ ws)))) (r d) ∙ stuck (read (registers_of m xs) from)

-- the registers from the first to the last are arguments where all are set, and stuck elsewhere
module _ (m : Memory) (xs : List (Option Value)) (first last : ℕ) where
  module _ (ys : List (Option Value)) (low : first ≤ last + 1) (high : last + 1 ≤ length xs) (are : ys ≡ take (last + 1 - first) (drop first xs)) where
    there : length ys ≡ last + 1 - first
    there = ap length are ∙ length-take-le (last + 1 - first) (drop first xs) (let d = length-drop first xs in omega arith)

    each : (k : ℕ) → k < last + 1 - first → get_or xs (first + k) None ≡ get_or ys k None
    each k l = sym (ap (λ (z : List (Option Value)). get_or z k None) are ∙ get_or-take (last + 1 - first) (drop first xs) k None l ∙ get_or-drop first xs k None)

    pub passes-set : true ≡ list_all is_some ys → (vs : List Val) × (arguments_at (registers_of m xs) first last ≡ Ok vs) × (map Some vs ≡ registers_of m (take (last + 1 - first) (drop first xs))) × (length vs ≡ last + 1 - first)
    passes-set h =
        let e : suc last - first ≡ last + 1 - first = omega arith in
        let v = all-values m xs (last + 1 - first) first (λ k a b.
        let n : first + (k - first) ≡ k = omega arith in
        ap (λ i. is_some (get_or xs i None)) (sym n) ∙ ap is_some (each (k - first) (omega arith)) ∙ each-set ys (k - first) (sym h) (omega (arith, there))) in
        (v.0, ap (values_from (registers_of m xs) first) e ∙ v.1, v.2, v.3)

    pub passes-unset : false ≡ list_all is_some ys → arguments_at (registers_of m xs) first last ≡ Err Stuck
    passes-unset h =
        let k = one-unset ys (sym h) in
        let l : k.0 < last + 1 - first = (let b = k.1 in omega (arith, there)) in
        some-missing m xs (suc last - first) first (first + k.0) (omega arith) (omega arith) (ap is_some (each k.0 l) ∙ k.2)

  pub passes-past : first ≤ last → length xs ≤ last → arguments_at (registers_of m xs) first last ≡ Err Stuck
  passes-past l h = some-missing m xs (suc last - first) first last l (omega arith) (ap is_some (get_or_past xs last None h))

-- registers passed are those of the caller's window
handed-window : (xs : List (Option Value)) (w from n : ℕ) → from + n ≤ registers_per_frame → take n (drop from (window xs w)) ≡ take n (drop (registers_per_frame * w + from) xs)
handed-window xs w from n h =
    let e : registers_per_frame ≡ from + (registers_per_frame - from) = omega arith in
    ap (λ k. take n (drop from (take k (drop (registers_per_frame * w) xs)))) e
    ∙ ap (take n) (drop-take from (registers_per_frame - from) (drop (registers_per_frame * w) xs))
    ∙ take-take n (registers_per_frame - from) (drop from (drop (registers_per_frame * w) xs)) (omega arith)
    ∙ ap (take n) (drop-drop from (registers_per_frame * w) xs)

length-handed : (xs : List (Option Value)) (from n : ℕ) → n ≤ registers_per_frame → from + n ≤ length xs → length (handed xs from n) ≡ registers_per_frame
length-handed xs from n h l =
    let none : Option Value = None in
    let a = length-append (take n (drop from xs)) (replicate (registers_per_frame - n) none) in
    let t = length-take-le n (drop from xs) (let d = length-drop from xs in omega arith) in
    let r = length-replicate (registers_per_frame - n) none in
    omega arith

unset-read : (n i : ℕ) → get_or {A = Option Value} (replicate n None) i None ≡ None
unset-read zero i = refl
unset-read (suc n) zero = refl
unset-read (suc n) (suc i) = unset-read n i

registers-unset : (m : Memory) (xs : List (Option Value)) (n : ℕ) → registers_of m (xs ++ replicate n None) ≡ registers_of m xs ++ replicate n None
unfolding registers_of
registers-unset m xs n = map-append (meant m) xs (replicate n None) ∙ ap (λ (z : List (Option Val)). map (meant m) xs ++ z) (unsets n) where
  unsets : (n : ℕ) → map (meant m) (replicate n None) ≡ replicate n None
  unsets zero = refl
  unsets (suc n) = ap (λ (z : List (Option Val)). None ∷ z) (unsets n)

-- the slice after a call: the callers' front, and the callee's window behind it
module _ (xs : List (Option Value)) (w from n : ℕ) (fit : from + n ≤ registers_per_frame) (few : w + 1 < most_frames) (sized : registers_per_frame * most_frames ≤ length xs) where
  abbrev after : List (Option Value)
  after = laid xs (registers_per_frame * w + registers_per_frame) (handed xs (registers_per_frame * w + from) n)

  front-after : take (registers_per_frame * w + registers_per_frame) after ≡ take (registers_per_frame * w + registers_per_frame) xs
  front-after = take-laid xs (handed xs (registers_per_frame * w + from) n) (registers_per_frame * w + registers_per_frame) (omega arith)

  caller-after : (k : ℕ) → k ≤ w → window after k ≡ window xs k
  caller-after k l = window-kept xs after (registers_per_frame * w + registers_per_frame) k front-after (omega arith)

  callee-after : (k : ℕ) → k ≡ w + 1 → window after k ≡ handed xs (registers_per_frame * w + from) n
  callee-after k e =
      window-put xs (handed xs (registers_per_frame * w + from) n) _ (registers_per_frame * w + registers_per_frame) k (omega arith) (omega arith)
      (length-handed xs (registers_per_frame * w + from) n (omega arith) (omega arith))

  handed-within : (u : ℕ) → Within u (window xs w) → Within u (handed xs (registers_per_frame * w + from) n)
  handed-within u h i =
      let none : Option Value = None in
      let d = length-drop (registers_per_frame * w + from) xs in
      let t = length-take-le n (drop (registers_per_frame * w + from) xs) (omega arith) in
      elim (cases_lt i n) [
        | inl l ↦
            subst (λ (o : Option Value). slot_end o ≤ u)
            (get_or-take registers_per_frame (drop (registers_per_frame * w) xs) (from + i) none (omega arith) ∙ get_or-drop (registers_per_frame * w) xs (from + i) none ∙ ap (λ k. get_or xs k none) (let e : registers_per_frame * w + (from + i) ≡ registers_per_frame * w + from + i = omega arith in e)
            ∙ sym (get_or_append_left (take n (drop (registers_per_frame * w + from) xs)) (replicate (registers_per_frame - n) none) none i (omega arith) ∙ get_or-take n (drop (registers_per_frame * w + from) xs) i none l ∙ get_or-drop (registers_per_frame * w + from) xs i none))
            (h (from + i))
        | inr l ↦
            subst (λ (o : Option Value). slot_end o ≤ u)
            (sym (get_or-append_right (take n (drop (registers_per_frame * w + from) xs)) (replicate (registers_per_frame - n) none) n i none t l ∙ unset-read (registers_per_frame - n) (i - n)))
            (omega arith)
      ]

  -- no frame refers to more strings than before
  pub enter-within : (u : ℕ) (ys : List (Option Value)) (v k : ℕ) → ys ≡ laid xs (registers_per_frame * w + registers_per_frame) (handed xs (registers_per_frame * w + from) n) → v ≡ w + 1 → LiveIn u xs w → k ≤ v → Within u (window ys k)
  enter-within u ys v k ey ev h l =
      elim (cases_lt k (w + 1)) [
        | inl a ↦ subst (Within u) (sym (ap (λ (z : List (Option Value)). window z k) ey ∙ caller-after k (omega arith))) (h k (omega arith))
        | inr b ↦ subst (Within u) (sym (ap (λ (z : List (Option Value)). window z k) ey ∙ callee-after k (omega arith))) (handed-within u (h w (omega arith)))
      ]

  module _ (m : Memory) (vs : List Val) (p : map Some vs ≡ registers_of m (take n (drop from (window xs w)))) (len : length vs ≡ n) where
    handed-passed : registers_of m (handed xs (registers_per_frame * w + from) n) ≡ passed vs
    unfolding passed
    handed-passed =
        registers-unset m (take n (drop (registers_per_frame * w + from) xs)) (registers_per_frame - n)
        ∙ (λ i. sym (p ∙ ap (registers_of m) (handed-window xs w from n fit)) i ++ replicate (registers_per_frame - sym len i) None)

    pub callee-passed : (k : ℕ) → k ≡ w + 1 → registers_of m (window after k) ≡ passed vs
    callee-passed k e = ap (registers_of m) (callee-after k e) ∙ handed-passed

  pub caller-waits : (m : Memory) (fs gs : List Frame) (r : Frame) (k : ℕ) → w ≡ length fs → gs ≡ fs ++ r ∷ [] → k ≡ suc w → callers_of m after gs k ≡ machine.frame r.function.0 r.pc.0 (registers_of m (window xs w)) ∷ callers_of m xs fs w
  unfolding callers_of
  caller-waits m fs gs r k low eg ek =
      let top : get_or gs w no_frame ≡ r = ap (λ (z : List Frame). get_or z w no_frame) eg ∙ get_or_push fs r no_frame w (sym low) in
      let win = caller-after w (omega arith) in
      let below : take (registers_per_frame * w) after ≡ take (registers_per_frame * w) xs = sym (take-take (registers_per_frame * w) (registers_per_frame * w + registers_per_frame) after (omega arith)) ∙ ap (take (registers_per_frame * w)) front-after ∙ take-take (registers_per_frame * w) (registers_per_frame * w + registers_per_frame) xs (omega arith) in
      let rest = callers-kept m xs after fs gs w below (λ j l. ap (λ (z : List Frame). get_or z j no_frame) eg ∙ get_or_append_left fs (r ∷ []) no_frame j (omega arith)) in
      ap (callers_of m after gs) ek ∙ (λ i. machine.frame (top i).function.0 (top i).pc.0 (registers_of m (win i)) ∷ rest i)

module _ (m : Memory) (W : World) (xs : List (Option Value)) (fs : List Frame) (w : ℕ) (r : Frame) (g first last : ℕ) where
  pub enter-stuck : (e : Ending) → arguments_at (registers_of m (window xs w)) first last ≡ Err e → enter_from g first last (state_at m xs fs w r W) ≡ Err e
  unfolding state_at
  enter-stuck e h = rw h

  module _ (vs : List Val) (h : arguments_at (registers_of m (window xs w)) first last ≡ Ok vs) where
    pub enter-full : most_frames ≤ w + 1 → enter_from g first last (state_at m xs fs w r W) ≡ Err NoFrameSpace
    unfolding state_at
    enter-full l = rw (h, le-ltb (suc (length (callers_of m xs fs w))) most_frames (let n = length-callers m xs fs w in omega arith))

    enter-goes : w + 1 < most_frames → enter_from g first last (state_at m xs fs w r W) ≡ Ok (at g 0 (passed vs) (machine.frame r.function.0 r.pc.0 (registers_of m (window xs w)) ∷ callers_of m xs fs w) W)
    unfolding state_at
    enter-goes l = rw (h, lt-ltb (suc (length (callers_of m xs fs w))) most_frames (let n = length-callers m xs fs w in omega arith))

    -- the new frame has what it is passed, and the caller waits
    pub enter-fits : (from n : ℕ) (ys : List (Option Value)) (gs : List Frame) (v : ℕ) (t : Frame) → map Some vs ≡ registers_of m (take n (drop from (window xs w))) → length vs ≡ n → from + n ≤ registers_per_frame → w + 1 < most_frames → w ≡ length fs → registers_per_frame * most_frames ≤ length xs → ys ≡ laid xs (registers_per_frame * w + registers_per_frame) (handed xs (registers_per_frame * w + from) n) → gs ≡ fs ++ r ∷ [] → t.function.0 ≡ g → t.pc.0 ≡ 0 → v ≡ w + 1 → enter_from g first last (state_at m xs fs w r W) ≡ Ok (state_at m ys gs v t W)
    unfolding state_at
    enter-fits from n ys gs v t p len fit few low sized ey eg ef ep ew =
        let regs : registers_of m (window ys v) ≡ passed vs = ap (λ (z : List (Option Value)). registers_of m (window z v)) ey ∙ callee-passed xs w from n fit few sized m vs p len v ew in
        let callers = ap (λ (z : List (Option Value)). callers_of m z gs v) ey ∙ caller-waits xs w from n fit few sized m fs gs r v low eg (omega arith) in
        enter-goes few ∙ (λ i. Ok (at (sym ef i) (sym ep i) (sym regs i) (sym callers i) W))

-- a run's first frame has no register set
module _ (xs ys : List (Option Value)) (v : ℕ) (t : Frame) (sized : registers_per_frame ≤ length xs) (ey : ys ≡ replicate registers_per_frame None ++ drop registers_per_frame xs) (ef : t.function.0 ≡ 0) (ep : t.pc.0 ≡ 0) (ew : v ≡ 0) where
  first-window : (k : ℕ) → k ≡ 0 → window ys k ≡ replicate registers_per_frame None
  first-window k e =
      let none : Option Value = None in
      ap (λ (z : List (Option Value)). window z k) ey ∙ window-put xs (replicate registers_per_frame none) _ 0 k (omega arith) (omega arith) (length-replicate registers_per_frame none)

  pub first-begins : (m : Memory) (fs : List Frame) (W : World) → at 0 0 (passed []) [] W ≡ state_at m ys fs v t W
  unfolding state_at passed registers_of callers_of
  first-begins m fs W =
      let regs = ap (registers_of m) (first-window v ew) ∙ registers-unset m [] registers_per_frame in
      let callers = ap (callers_of m ys fs) ew in
      (λ i. at (sym ef i) (sym ep i) (sym regs i) (sym callers i) W)

  pub first-within : (u : ℕ) → LiveIn u ys v
  first-within u k l i = rw (first-window k (omega arith), unset-read registers_per_frame i) (omega arith)
