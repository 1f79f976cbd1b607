-- Longest fronts: what they hold, where they stop, and that they are the only ones. Assumes nothing.
use Rattle.std.proofs.Common.{◌≡◌, ℕ, ◌≤◌, Bool, true, false, ◌||◌, List, [], ◌∷◌, ◌++◌, length, drop, sym, refl, ap, ◌∙◌, arith}
use Rattle.std.specs.List.{AllByRecursion}
use Rattle.std.proofs.lemmas.Bool.{or_from, or_parts}
use Rattle.std.specs.List.{take_while}
use Rattle.lexer.specs.Law.{Stops}
use Rattle.lexer.proofs.Front.{front-passes, front-stops, front-none}

-- what is left behind the longest front
abbrev pub left : (ℕ → Bool) → List ℕ → List ℕ
left f bs = drop (length (take_while f bs)) bs

pub record Split (f : ℕ → Bool) (bs : List ℕ) : Type 0 where
  pub whole : bs ≡ take_while f bs ++ left f bs
  pub passing : AllByRecursion (λ b. f b ≡ true) (take_while f bs)
  pub stopping : Stops f (left f bs)

split_by : (f : ℕ → Bool) (b : ℕ) (bs : List ℕ) (t : Bool) → f b ≡ t → Split f bs → Split f (b ∷ bs)
split_by f b bs true e s =
    let p = front-passes f b bs e in
    record {
      whole = ap (λ l. b ∷ l) s.whole ∙ sym (ap (λ l. l ++ drop (length l) (b ∷ bs)) p);
      passing = rw p (e, s.passing);
      stopping = rw p s.stopping;
    }
split_by f b bs false e s =
    let p = front-stops f b bs e in
    record {
      whole = sym (ap (λ l. l ++ drop (length l) (b ∷ bs)) p);
      passing = rw p tt;
      stopping = rw p e;
    }

within_by : (f : ℕ → Bool) (b : ℕ) (bs : List ℕ) (t : Bool) → f b ≡ t → length (take_while f bs) ≤ length bs → length (take_while f (b ∷ bs)) ≤ length (b ∷ bs)
within_by f b bs true e again = rw (front-passes f b bs e) (omega arith)
within_by f b bs false e again = rw (front-stops f b bs e) (omega arith)

-- a front is no longer than what it is the front of
pub front-within : (f : ℕ → Bool) (bs : List ℕ) → length (take_while f bs) ≤ length bs
front-within f [] = omega arith
front-within f (b ∷ bs) = within_by f b bs (f b) refl (front-within f bs)

pub split : (f : ℕ → Bool) (bs : List ℕ) → Split f bs
split f [] = record { whole = refl; passing = tt; stopping = tt }
split f (b ∷ bs) = split_by f b bs (f b) refl (split f bs)

front-at-stop : (f : ℕ → Bool) (bs : List ℕ) → Stops f bs → take_while f bs ≡ []
front-at-stop f [] s = front-none f
front-at-stop f (b ∷ bs) s = front-stops f b bs s

-- bytes that pass, up to one that does not, are the longest front
pub front-is : (f : ℕ → Bool) (w more : List ℕ) → AllByRecursion (λ b. f b ≡ true) w → Stops f more → take_while f (w ++ more) ≡ w
front-is f [] more a s = front-at-stop f more s
front-is f (b ∷ w) more a s = front-passes f b (w ++ more) a.0 ∙ ap (λ l. b ∷ l) (front-is f w more a.1 s)

pub front-at-least : (f : ℕ → Bool) (w more : List ℕ) → AllByRecursion (λ b. f b ≡ true) w → length w ≤ length (take_while f (w ++ more))
front-at-least f [] more a = omega arith
front-at-least f (b ∷ w) more a =
    let h = front-at-least f w more a.1 in
    rw (front-passes f b (w ++ more) a.0) (omega arith)

pub stops-never : (f : ℕ → Bool) (bs : List ℕ) → ((b : ℕ) → f b ≡ false) → Stops f bs
stops-never f [] n = tt
stops-never f (b ∷ bs) n = n b

pub stops-both : (f g : ℕ → Bool) (bs : List ℕ) → Stops f bs → Stops g bs → Stops (λ b. f b || g b) bs
stops-both f g [] s t = tt
stops-both f g (b ∷ bs) s t = or_from (f b) (g b) s t

pub stops_first : (f g : ℕ → Bool) (bs : List ℕ) → Stops (λ b. f b || g b) bs → Stops f bs
stops_first f g [] s = tt
stops_first f g (b ∷ bs) s = (or_parts (f b) (g b) s).0

pub stops_second : (f g : ℕ → Bool) (bs : List ℕ) → Stops (λ b. f b || g b) bs → Stops g bs
stops_second f g [] s = tt
stops_second f g (b ∷ bs) s = (or_parts (f b) (g b) s).1
