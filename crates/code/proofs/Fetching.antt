-- What stands at a place of a function.
use Rattle.std.proofs.Common.{◌≡◌, ℕ, ◌+◌, ◌<◌, ◌≤◌, min, List, [], map, length, get_or, take, drop, Some, None, sym, ap, ◌∙◌, arith}
use Rattle.std.specs.List.{slice_get}
use Rattle.std.proofs.lemmas.List.{get_or-map, get_or-take, get_or-drop, get_or_past, length-map, length-take, length-drop}
use Rattle.std.proofs.lemmas.Option.{slice_get-get_or, slice_get_past}
use Rattle.text.specs.Memory.{Memory}
use Rattle.machine.specs.Instr.{fetch}
use Rattle.code.specs.declared.table.Record.{Record}
use Rattle.code.specs.declared.table.Extent.{Extent}
use Rattle.code.specs.Programs.{meant, code_at, program_at}

module _ (m : Memory) (xs : List Record) where
  pub no-function : (es : List Extent) (f pc : ℕ) → length es ≤ f → fetch (program_at m xs es) f pc ≡ None
  unfolding program_at fetch
  no-function es f pc h =
      ap (λ c. slice_get c pc) (get_or_past (map (code_at m xs) es) f [] (let l = length-map es (code_at m xs) in omega arith))

  of_function : (es : List Extent) (f pc : ℕ) (d : Extent) → f < length es → fetch (program_at m xs es) f pc ≡ slice_get (code_at m xs (get_or es f d)) pc
  unfolding program_at fetch
  of_function es f pc d a = ap (λ c. slice_get c pc) (get_or-map (code_at m xs) es f d [] a)

  -- what was looked up in the functions
  pub looked-up : (es ys : List Extent) (f i pc : ℕ) (e : Extent) → ys ≡ es → i ≡ f → i < length ys → e ≡ get_or ys i e → fetch (program_at m xs es) f pc ≡ slice_get (code_at m xs e) pc
  looked-up es ys f i pc e p q a h =
      of_function es f pc e (omega (arith, ap length p)) ∙ sym (ap (λ z. slice_get (code_at m xs z) pc) (h ∙ (λ t. get_or (p t) (q t) e)))

  pub length-code : (e : Extent) → length (code_at m xs e) ≡ min e.len (length (drop e.start xs))
  unfolding code_at
  length-code e = length-map (take e.len (drop e.start xs)) (meant m) ∙ length-take e.len (drop e.start xs)

  pub past-code : (e : Extent) (pc : ℕ) → e.len ≤ pc → slice_get (code_at m xs e) pc ≡ None
  past-code e pc h = slice_get_past (code_at m xs e) pc (let l = length-code e in omega arith)

  pub past-table : (e : Extent) (pc : ℕ) → length xs ≤ e.start + pc → slice_get (code_at m xs e) pc ≡ None
  past-table e pc h =
      slice_get_past (code_at m xs e) pc (let l = length-code e in let d = length-drop e.start xs in omega arith)

  pub in_code : (e : Extent) (pc : ℕ) (d : Record) → pc < e.len → e.start + pc < length xs → slice_get (code_at m xs e) pc ≡ Some (meant m (get_or xs (e.start + pc) d))
  unfolding code_at
  in_code e pc d a b =
      slice_get-get_or (code_at m xs e) pc (meant m d) (let l = length-code e in let k = length-drop e.start xs in omega arith)
      ∙ ap Some
      (
      get_or-map (meant m) (take e.len (drop e.start xs)) pc d (meant m d)
      (let t = length-take e.len (drop e.start xs) in let k = length-drop e.start xs in omega arith)
      ∙ ap (meant m) (get_or-take e.len (drop e.start xs) pc d a ∙ get_or-drop e.start xs pc d)
      )
