-- A slice parted into what a stack holds and what stands beyond, and how the parts move. Assumes nothing.
use Rattle.std.proofs.Common.{◌≡◌, ℕ, ◌<◌, ◌≤◌, List, [], ◌∷◌, ◌++◌, length, get_or, Some, None, Option, sym, ap, ◌∙◌, arith, MatchOption}
use Rattle.std.specs.List.{slice_get}
use Rattle.std.proofs.lemmas.List.{take-append-drop, take_at, length-take-le, length_push, same_from_push}
use Rattle.std.proofs.lemmas.Option.{slice_get-get_or, slice_get_past}
use Rattle.stack.specs.declared.Stack.{Stack}
use Rattle.stack.specs.Held.{held, beyond, front}

module _ {T : Type 0} where
  -- nothing of the slice is lost
  pub slice-is-held-and-beyond : (s : Stack T) → s.items.now ≡ held s ++ beyond s
  slice-is-held-and-beyond s = sym (take-append-drop s.len s.items.now)

  pub length-held : (s : Stack T) → length (held s) ≡ s.len
  length-held s = length-take-le s.len s.items.now s.fits

  pub front-push : (xs : List T) (x : T) → front (xs ++ x ∷ []) ≡ xs
  front-push xs x = take_at xs (x ∷ []) _ (omega (arith, length_push xs x))

  -- what was pushed last is popped first, and the items below it are left
  pub pop-after-push : (r : Option T) (xs was left : List T) (x : T) → xs ≡ was ++ x ∷ [] → MatchOption r ((xs ≡ []) × (left ≡ [])) (λ y. xs ≡ left ++ y ∷ []) → (r ≡ Some x) × (left ≡ was)
  pop-after-push None xs was left x e p = absurd (omega (arith, ap length (sym e ∙ p.0), length_push was x))
  pop-after-push (Some y) xs was left x e p =
      let q = same_from_push was left x y (sym e ∙ p) in
      (ap Some (sym q.1), sym q.0)

  pub top-after-push : (r : Option T) (xs was : List T) (x : T) → xs ≡ was ++ x ∷ [] → MatchOption r (xs ≡ []) (λ y. xs ≡ front xs ++ y ∷ []) → r ≡ Some x
  top-after-push None xs was x e p = absurd (omega (arith, ap length (sym e ∙ p), length_push was x))
  top-after-push (Some y) xs was x e p = ap Some (sym (same_from_push was (front xs) x y (sym e ∙ p)).1)

  -- an item by its place, as an option
  pub get-is-nth : (r : Option T) (xs : List T) (i : ℕ) → MatchOption r (length xs ≤ i) (λ x. (i < length xs) × ((d : T) → get_or xs i d ≡ x)) → r ≡ slice_get xs i
  get-is-nth None xs i p = sym (slice_get_past xs i p)
  get-is-nth (Some x) xs i p = sym (slice_get-get_or xs i x p.0 ∙ ap Some (p.1 x))
