-- Code that lays tables: it goes on while they find room, and ends the run where they do not. Assumes nothing.
use Rattle.std.proofs.Common.{◌≡◌, ℕ, suc, ◌+◌, ◌<◌, ◌≤◌, [], ◌∷◌, ◌++◌, length, get_or, None, refl, ap, ◌∙◌, ⊎_elim, arith}
use Rattle.std.proofs.lemmas.List.{length-append, length_push, get_or_push, set_at}
use Rattle.std.proofs.lemmas.Bool.{cases_lt, lt-ltb, le-ltb}
use Rattle.store.specs.Val.{Val}
use Rattle.store.specs.Tables as store
use Rattle.store.specs.Tables.{Table, Tables, look, put, pairs}
use Rattle.store.proofs.Tables.{put-new, takes-new}
use Rattle.machine.specs.declared.ending.Ending.TheVariants.{NoTableSpace}
use Rattle.machine.specs.Limits.{registers_per_frame, Limits}
use Rattle.machine.specs.Effects.{Effects}
use Rattle.machine.specs.Instr.{Instr, Program}
use Rattle.machine.specs.State.{Registers, write, World, State, at, goes, ends}
use Rattle.machine.proofs.Judge.{Has, Fetch, Step, Run}
use Rattle.machine.proofs.Runs.{run-add, run_none, run-one}
use Rattle.machine.proofs.Exec.{do-mk_tab, end-mk_tab, do-wr_tab, end-wr_tab}

-- the store has room for these tables
pub record Room (L : Limits) (T : Tables) : Type 0 where
  pub tables-fit : length T ≤ L.tables
  pub pairs-fit : pairs T ≤ L.pairs

abbrev pub laying : Tables → Table → Effects → World
laying T G o = record { tables = T; globals = G; effects = o }

pub pairs-append : (T U : Tables) → pairs (T ++ U) ≡ pairs T + pairs U
unfolding pairs
pairs-append [] U = omega arith
pairs-append (t ∷ T) U = omega (arith, pairs-append T U)

pub pairs-push : (T : Tables) (t : Table) → pairs (T ++ t ∷ []) ≡ pairs T + length t
unfolding pairs
pairs-push T t = pairs-append T (t ∷ []) ∙ omega arith

-- room for tables is room for those in front
pub room-in-front : {L : Limits} (T U : Tables) → Room L (T ++ U) → Room L T
room-in-front T U r =
    record { tables-fit = omega (arith, r.tables-fit, length-append T U); pairs-fit = omega (arith, r.pairs-fit, pairs-append T U) }

-- From m the machine lays the tables T and comes to q with what Φ says of globals and registers, in at most c steps; or they
-- find no room, and the run ends so
pub data Lays (C : Program) (L : Limits) (m : State) (c q : ℕ) (o : Effects) (T : Tables) (Φ : Table → Registers → Type 0) : Type 0 where
  laid : (j : ℕ) (G : Table) (R : Registers) → Run C L j m (goes (at 0 q R [] (laying T G o))) → j ≤ c → Room L T → Φ G R → Lays C L m c q o T Φ
  full : (j : ℕ) → Run C L j m (ends NoTableSpace o) → j ≤ c → (Room L T → ⊥) → Lays C L m c q o T Φ

module _ {C : Program} {L : Limits} {q : ℕ} {o : Effects} {T : Tables} {Φ : Table → Registers → Type 0} where
  pub after : {c c' : ℕ} {m m' : State} (j : ℕ) → Run C L j m (goes m') → j + c' ≤ c → Lays C L m' c' q o T Φ → Lays C L m c q o T Φ
  after j h b (laid i G R g l r φ) = laid (j + i) G R (run-add h g) (omega arith) r φ
  after j h b (full i g l n) = full (j + i) (run-add h g) (omega arith) n

  pub step_then : {c : ℕ} {m m' : State} → Step C L m (goes m') → Lays C L m' c q o T Φ → Lays C L m (suc c) q o T Φ
  step_then e h = after 1 (run-one e) (omega arith) h

  pub slack : {c : ℕ} {m : State} (d : ℕ) → c ≤ d → Lays C L m c q o T Φ → Lays C L m d q o T Φ
  slack d b h = after 0 run_none (omega arith) h

  -- the tables stand
  pub done : {c p : ℕ} {S : Tables} {G : Table} {R : Registers} → p ≡ q → S ≡ T → Room L S → Φ G R → Lays C L (at 0 p R [] (laying S G o)) c q o T Φ
  done {G = G} {R = R} e t r φ = laid 0 G R (rw (e, t) run_none) (omega arith) (rw t at r) φ

  -- one table more
  pub make-then : {c p a : ℕ} {S : Tables} {G : Table} {R : Registers} → Fetch C 0 p (Instr.mk_tab a) → a < registers_per_frame → Room L S → length S < length T
      → (Room L (S ++ [] ∷ []) → Lays C L (at 0 (suc p) (write R a (Val.location (length S))) [] (laying (S ++ [] ∷ []) G o)) c q o T Φ)
      → Lays C L (at 0 p R [] (laying S G o)) (suc c) q o T Φ
  make-then {S = S} h l r b κ = ⊎_elim
      (λ (e : length S < L.tables). step_then (do-mk_tab h l e)
      (κ record { tables-fit = omega (arith, length_push S []); pairs-fit = omega (arith, r.pairs-fit, pairs-push S []) }))
      (λ (e : L.tables ≤ length S). full 1 (run-one (end-mk_tab h l e)) (omega arith) (λ n. omega (arith, n.tables-fit)))
      (cases_lt (length S) L.tables)

  -- one pair more in the last table
  pub write_then : {c p x y z : ℕ} {k v : Val} (S : Tables) (t : Table) {G : Table} {R : Registers} → Fetch C 0 p (Instr.wr_tab x y z) → Has R x (Val.location (length S)) → Has R y k → Has R z v → look k t ≡ None → Room L (S ++ t ∷ []) → pairs (S ++ t ∷ []) < pairs T
      → (Room L (S ++ (t ++ (k, v) ∷ []) ∷ []) → Lays C L (at 0 (suc p) R [] (laying (S ++ (t ++ (k, v) ∷ []) ∷ []) G o)) c q o T Φ)
      → Lays C L (at 0 p R [] (laying (S ++ t ∷ []) G o)) (suc c) q o T Φ
  write_then {k = k} {v = v} S t h hx hy hz new r b κ =
      let here : length S < length (S ++ t ∷ []) = omega (arith, length_push S t) in
      let last : get_or (S ++ t ∷ []) (length S) [] ≡ t = get_or_push S t [] (length S) refl in
      let none : store.read (S ++ t ∷ []) (length S) k ≡ None = ap (look k) last ∙ new in
      let taken = takes-new L.pairs (S ++ t ∷ []) (length S) k (lt-ltb (length S) (length (S ++ t ∷ [])) here) none in
      let written : store.write (S ++ t ∷ []) (length S) k v ≡ S ++ (t ++ (k, v) ∷ []) ∷ [] =
      set_at S t [] (put k v (get_or (S ++ t ∷ []) (length S) [])) (length S) refl
      ∙ ap (λ (u : Table). S ++ put k v u ∷ []) last
      ∙ ap (λ (u : Table). S ++ u ∷ []) (put-new k v t new) in
      ⊎_elim
      (λ (e : pairs (S ++ t ∷ []) < L.pairs). step_then
      (do-wr_tab h hx here hy hz (taken ∙ lt-ltb (pairs (S ++ t ∷ [])) L.pairs e))
      (rw written
      (κ record {
        tables-fit = omega (arith, r.tables-fit, length_push S t, length_push S (t ++ (k, v) ∷ []));
        pairs-fit = omega (arith, pairs-push S t, pairs-push S (t ++ (k, v) ∷ []), length_push t (k, v));
      })))
      (λ (e : L.pairs ≤ pairs (S ++ t ∷ [])). full 1
      (run-one (end-wr_tab h hx here hy hz (taken ∙ le-ltb (pairs (S ++ t ∷ [])) L.pairs e)))
      (omega arith) (λ n. omega (arith, n.pairs-fit)))
      (cases_lt (pairs (S ++ t ∷ [])) L.pairs)

-- some tables, and then more
pub lay-on : {C : Program} {L : Limits} {p q : ℕ} {o : Effects} {T T' : Tables} {Φ Ψ : Table → Registers → Type 0} {c d : ℕ} {m : State} → Lays C L m c p o T Φ → (Room L T' → Room L T) → ((G : Table) (R : Registers) → Room L T → Φ G R → Lays C L (at 0 p R [] (laying T G o)) d q o T' Ψ) → Lays C L m (c + d) q o T' Ψ
lay-on (laid j G R h b r φ) f κ = after j h (omega arith) (κ G R r φ)
lay-on (full j h b n) f κ = full j h (omega arith) (λ r. n (f r))
