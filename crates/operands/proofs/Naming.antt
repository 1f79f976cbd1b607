-- Globals by name: the first of a name is the table's.
use Rattle.std.proofs.Common.{◌≡◌, ℕ, suc, ◌+◌, ◌<◌, ◌≤◌, Bool, true, false, cond, not, eqb, ltb, List, [], ◌∷◌, ◌++◌, map, length, get_or, set, is_some, Some, None, Option, sym, refl, ap, ◌∙◌, inl, inr, arith}
use Prim.Native.Nat.compare
use Rattle.std.specs.Option.{option_map}
use Rattle.std.specs.List.{slice_get, position, position_or_len}
use Rattle.std.specs.List.{refill}
use Rattle.std.proofs.lemmas.List.{length-map, length-set}
use Rattle.arrayvec.specs.ArrayVec.{ArrayVec}
use Rattle.arrayvec.proofs.ArrayVecLemmas.{items-with_items}
use Rattle.std.proofs.lemmas.List.Quantifiers.{position-Some}
use Rattle.std.proofs.lemmas.Option.{slice_get-get_or}
use Rattle.std.proofs.lemmas.Bool.{lt-ltb, le-ltb, or_right}
use Rattle.std.proofs.lemmas.Bool.Decides.{eqb_tells}
use Rattle.text.specs.Memory.{Memory}
use Rattle.store.specs.declared.value.Value.{Value}
use Rattle.store.specs.Val.{Val, equal_val, meaning}
use Rattle.store.specs.Tables.{Table, look, put}
use Rattle.machine.specs.Step.{holds_global}
use Rattle.operands.specs.declared.globals.Global.{Global}
use Rattle.operands.specs.Globals.{filed}

-- the place of the first that passes, one step into the list
position-later : {A : Type 0} (p : A → Bool) (x : A) (xs : List A) → position p (x ∷ xs) ≡ cond (p x) (Some 0) (option_map suc (position p xs))
position-later p x xs =
    elim (p x) as (λ b. cond (ltb (cond (not b) (1 + position_or_len p xs) 0) (suc (length xs))) (Some (cond (not b) (1 + position_or_len p xs) 0)) None ≡ cond b (Some 0) (option_map suc (position p xs))) [
      | true ↦ rw (lt-ltb 0 (suc (length xs)) (omega arith)) refl
      | false ↦ behind (position_or_len p xs) (length xs)
    ]
  where
    told : (b : Bool) (k : ℕ) → cond b (Some (suc k)) None ≡ option_map suc (cond b (Some k) None)
    told true k = refl
    told false k = refl

    behind : (k l : ℕ) → cond (ltb (1 + k) (suc l)) (Some (1 + k)) None ≡ option_map suc (cond (ltb k l) (Some k) None)
    behind k l = let e : 1 + k ≡ suc k = omega arith in rw (e, compare.suc-suc (suc k) l) (told (ltb k l) k)

module _ (m : Memory) (n : ℕ) where
  abbrev named : Global → Bool
  named e = eqb e.name.0 n

  -- the entry at a place
  abbrev entry_at : List Global → Option ℕ → Option Global
  entry_at es None = None
  entry_at es (Some i) = slice_get es i

  abbrev value_at : List Global → Option ℕ → Option Val
  value_at es o = option_map (λ (e : Global). meaning m e.value) (entry_at es o)

  value-later : (e : Global) (es : List Global) (o : Option ℕ) → value_at (e ∷ es) (option_map suc o) ≡ value_at es o
  value-later e es None = refl
  value-later e es (Some i) = refl

  -- the first of a name is the table's
  pub look-named : (es : List Global) → look (Val.identifier n) (map (filed m) es) ≡ value_at es (position named es)
  unfolding look equal_val
  look-named [] = refl
  look-named (e ∷ es) =
      rw (position-later named e es)
      (elim (named e) as (λ b. cond b (Some (meaning m e.value)) (look (Val.identifier n) (map (filed m) es)) ≡ value_at (e ∷ es) (cond b (Some 0) (option_map suc (position named es)))) [
        | true ↦ refl
        | false ↦ look-named es ∙ sym (value-later e es (position named es))
      ])

  pub held_found : (es : List Global) (i : ℕ) (d : Global) → Some i ≡ position named es → Some (meaning m (get_or es i d).value) ≡ look (Val.identifier n) (map (filed m) es)
  held_found es i d h =
      let p = position-Some named es i d (sym h) in
      sym (look-named es ∙ ap (value_at es) (sym h) ∙ ap (option_map (λ (e : Global). meaning m e.value)) (slice_get-get_or es i d p.0))

  pub held_none : (es : List Global) → None ≡ position named es → None ≡ look (Val.identifier n) (map (filed m) es)
  held_none es h = sym (look-named es ∙ ap (value_at es) (sym h))

  module _ (w : Value) where
    abbrev mine : Global
    mine = record { name = record { 0 = n }; value = w }

    -- what a write leaves: the entry in place, or one more
    abbrev after : List Global → Option ℕ → List Global
    after es None = es ++ mine ∷ []
    after es (Some i) = set es i mine

    after-later : (e : Global) (es : List Global) (o : Option ℕ) → after (e ∷ es) (option_map suc o) ≡ e ∷ after es o
    after-later e es None = refl
    after-later e es (Some i) = refl

    pub put-named : (es : List Global) → map (filed m) (after es (position named es)) ≡ put (Val.identifier n) (meaning m w) (map (filed m) es)
    unfolding put equal_val
    put-named [] = refl
    put-named (e ∷ es) =
        rw (position-later named e es)
        (elim (eqb_tells e.name.0 n) [
          | inl h ↦ rw (h.0, h.1) refl
          | inr h ↦ rw (h.0, after-later e es (position named es)) (ap (λ (t : Table). filed m e ∷ t) (put-named es))
        ])

  pub put-found : (es fs : List Global) (i : ℕ) (w : Value) → Some i ≡ position named es → fs ≡ set es i (mine w) → map (filed m) fs ≡ put (Val.identifier n) (meaning m w) (map (filed m) es)
  put-found es fs i w h e = ap (map (filed m)) (e ∙ ap (after w es) h) ∙ put-named w es

  pub put-fresh : (es fs : List Global) (w : Value) → None ≡ position named es → fs ≡ es ++ mine w ∷ [] → map (filed m) fs ≡ put (Val.identifier n) (meaning m w) (map (filed m) es)
  put-fresh es fs w h e = ap (map (filed m)) (e ∙ ap (after w es) h) ∙ put-named w es

  -- a name that is there, or one more, has room
  pub has-place : (es : List Global) (v : Val) → Some v ≡ look (Val.identifier n) (map (filed m) es) → holds_global n (map (filed m) es) ≡ true
  has-place es v h = rw (← h)

  pub has_room : (es : List Global) → length es < 32 → holds_global n (map (filed m) es) ≡ true
  has_room es h =
      or_right (is_some (look (Val.identifier n) (map (filed m) es))) (ltb (length (map (filed m) es)) 32) (lt-ltb _ _ (omega (arith, length-map es (filed m))))

  pub no_room : (es : List Global) → None ≡ look (Val.identifier n) (map (filed m) es) → 32 ≤ length es → holds_global n (map (filed m) es) ≡ false
  no_room es h l = rw (← h) (le-ltb _ _ (omega (arith, length-map es (filed m))))

-- a write through the slice, as the vector then has it
pub entry-set : (v : ArrayVec Global) (xs : List Global) (i : ℕ) (e : Global) → xs ≡ v.items → refill (length v.items) v.items (set xs i e) ≡ set v.items i e
entry-set v xs i e h = rw h (items-with_items v (set v.items i e) (length-set v.items i e))
