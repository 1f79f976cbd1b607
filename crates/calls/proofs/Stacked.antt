-- Callers after a push that has room, and after a pop beside the latest.
use Rattle.std.proofs.Common.{◌≡◌, ℕ, suc, ◌<◌, List, [], ◌∷◌, ◌++◌, length, get_or, Some, None, Ok, Err, Option, Result, sym, ap, ◌∙◌, arith, MatchOption, MatchResult}
use Rattle.std.proofs.lemmas.List.{append_assoc, length_push, get_or_push, get_or_append_left}
use Rattle.stack.specs.declared.Stack.{Stack}
use Rattle.stack.specs.Held.{held, beyond, front}
use Rattle.stack.proofs.Holding.{slice-is-held-and-beyond, pop-after-push}
use Rattle.calls.specs.declared.frame.Frame.{Frame}
use Rattle.calls.specs.Frames.{no_frame}

pub pushed : (r : Result (Unit {0}) Frame) (was now : List Frame) (x : Frame) (room : ℕ) → length was < room → MatchResult r (λ _. length was < room) (λ y. (y ≡ x) × (length was ≡ room)) → MatchResult r (λ _. now ≡ was ++ x ∷ []) (λ _. now ≡ was) → now ≡ was ++ x ∷ []
pushed (Ok u) was now x room h f p = p
pushed (Err y) was now x room h f p = absurd (omega (arith, f.1))

-- what is popped stays in the slice
pub kept : (s t : Stack Frame) (r : Option Frame) → MatchOption r ((held s ≡ []) × (held t ≡ [])) (λ y. held s ≡ held t ++ y ∷ []) → MatchOption r (beyond t ≡ beyond s) (λ y. beyond t ≡ y ∷ beyond s) → t.items.now ≡ s.items.now
kept s t None p q =
    slice-is-held-and-beyond t ∙ (λ i. (p.1 ∙ sym p.0) i ++ q i) ∙ sym (slice-is-held-and-beyond s)
kept s t (Some y) p q =
    slice-is-held-and-beyond t ∙ ap (λ (z : List Frame). held t ++ z) q ∙ sym (append_assoc (held t) (y ∷ []) (beyond s))
    ∙ ap (λ (z : List Frame). z ++ beyond s) (sym p) ∙ sym (slice-is-held-and-beyond s)

module _ (fs : List Frame) (x : Frame) (top : fs ≡ front fs ++ x ∷ []) where
  pub one-less : length fs ≡ suc (length (front fs))
  one-less = let e = ap length top ∙ length_push (front fs) x in omega arith

  pub latest : x ≡ get_or fs (length (front fs)) no_frame
  latest = sym (ap (λ (z : List Frame). get_or z (length (front fs)) no_frame) top ∙ get_or_push (front fs) x no_frame (length (front fs)) (omega arith))

  pub popped : (r : Option Frame) (now : List Frame) → MatchOption r ((fs ≡ []) × (now ≡ [])) (λ y. fs ≡ now ++ y ∷ []) → now ≡ front fs
  popped r now p = (pop-after-push r fs (front fs) now x top p).1

  pub below : (now : List Frame) → now ≡ front fs → (j : ℕ) → j < length (front fs) → get_or now j no_frame ≡ get_or fs j no_frame
  below now e j l =
      ap (λ (z : List Frame). get_or z j no_frame) e
      ∙ sym (ap (λ (z : List Frame). get_or z j no_frame) top ∙ get_or_append_left (front fs) (x ∷ []) no_frame j l)
