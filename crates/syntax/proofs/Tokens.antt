-- The first of the tokens that are left, and those of a whole text.
use Rattle.std.proofs.Common.{◌≡◌, ℕ, zero, suc, ◌+◌, ◌-◌, ◌<◌, ◌≤◌, List, [], ◌∷◌, ◌++◌, length, take, drop, Some, None, sym, refl, ap, ◌∙◌, not-suc-le-zero, arith}
use Rattle.std.proofs.lemmas.List.{drop-drop, take_at, length-drop, length-append}
use Rattle.lexer.specs.Token.{Terminal, identifier, integer, field, string, keyword, symbol, spelling}
use Rattle.lexer.specs.Lexing.{Next, next}
use Rattle.lexer.specs.Tokens.{Placed, Tokens, before, scan, tokens, judged}
use Rattle.lexer.proofs.Onward.{known_by}
use Rattle.syntax.specs.declared.sight.Sort.TheVariants as sort
use Rattle.syntax.specs.Left.{onward, up_to, left}
use Rattle.syntax.specs.Sight.{slice, token_as, shown, sort_of}

module _ (text : List ℕ) where
  opened : (d at : ℕ) → up_to (suc d) text at ≡ onward (next text at) (up_to d text)
  unfolding up_to
  opened d at = refl

  -- any number that is enough gives the same list
  enough : (d e at : ℕ) → length text - at < d → length text - at < e → up_to d text at ≡ up_to e text at
  enough zero e at h g = absurd (not-suc-le-zero h)
  enough (suc d) zero at h g = absurd (not-suc-le-zero g)
  enough (suc d) (suc e) at h g = opened d at ∙ same (next text at) refl (enough d e) ∙ sym (opened e at)
    where
      same : (x : Next) → next text at ≡ x → ((q : ℕ) → length text - q < d → length text - q < e → up_to d text q ≡ up_to e text q)
          → onward (next text at) (up_to d text) ≡ onward (next text at) (up_to e text)
      same (Next.token t from to) i again =
          let k = (known_by text at (Next.token t from to) (sym i)).inside in
          ap (λ x. onward x (up_to d text)) i ∙ ap (λ l. record { token = t; place = from } ∷ l) (again to (omega arith) (omega arith)) ∙ sym (ap (λ x. onward x (up_to e text)) i)
      same Next.end i again = ap (λ x. onward x (up_to d text)) i ∙ sym (ap (λ x. onward x (up_to e text)) i)
      same (Next.stray p) i again = ap (λ x. onward x (up_to d text)) i ∙ sym (ap (λ x. onward x (up_to e text)) i)

  left-next : (at : ℕ) (x : Next) → x ≡ next text at → left text at ≡ onward x (left text)
  unfolding left
  left-next at (Next.token t from to) i =
      let k = (known_by text at (Next.token t from to) i).inside in
      opened _ at ∙ ap (λ x. onward x (up_to (length text - at) text)) (sym i)
      ∙ ap (λ l. record { token = t; place = from } ∷ l) (enough (length text - at) (suc (length text - to)) to (omega arith) (omega arith))
  left-next at Next.end i = opened _ at ∙ ap (λ x. onward x (up_to (length text - at) text)) (sym i)
  left-next at (Next.stray p) i = opened _ at ∙ ap (λ x. onward x (up_to (length text - at) text)) (sym i)

  -- the bytes of a token are the text's
  module _ (at : ℕ) (t : Terminal) (from to : ℕ) (i : Next.token t from to ≡ next text at) where
    standing : drop from text ≡ spelling t ++ drop to text
    standing = (known_by text at (Next.token t from to) i).scanned.1

    wide : length (spelling t) ≡ to - from
    wide =
        let k = (known_by text at (Next.token t from to) i).inside in
        let e = ap length standing in
        let a = length-drop from text in
        let b = length-drop to text in
        let c = length-append (spelling t) (drop to text) in
        omega arith

    spelt : slice text from to ≡ spelling t
    spelt = ap (take (to - from)) standing ∙ take_at (spelling t) (drop to text) (to - from) wide

  as-sorted : (at : ℕ) (t : Terminal) (from to : ℕ) → Next.token t from to ≡ next text at → t ≡ token_as text (sort_of t) from to
  as-sorted at (identifier w) from to i = ap identifier (sym (spelt at _ from to i))
  as-sorted at (integer w) from to i = ap integer (sym (spelt at _ from to i))
  as-sorted at (field w) from to i = ap field (sym (spelt at _ from to i))
  as-sorted at (string w) from to i =
      let s = ap (drop 1) (standing at (string w) from to i) in
      let n = wide at (string w) from to i in
      let m = length-append w (34 ∷ []) in
      let k : length w ≡ to - 1 - (from + 1) = omega arith in
      ap string (sym (ap (take (to - 1 - (from + 1))) (sym (drop-drop 1 from text) ∙ s ∙ mathlib.Core.List.append_assoc w (34 ∷ []) (drop to text)) ∙ take_at w (34 ∷ drop to text) _ k))
  as-sorted at (keyword k) from to i = refl
  as-sorted at (symbol s) from to i = refl

  pub left-shown : (at : ℕ) (t : Terminal) (from to : ℕ) → Next.token t from to ≡ next text at → left text at ≡ shown text (sort_of t) from to
  left-shown at t from to i = left-next at (Next.token t from to) i ∙ ap (λ u. record { token = u; place = from } ∷ left text to) (as-sorted at t from to i)

  pub left_end : (at : ℕ) → Next.end ≡ next text at → left text at ≡ []
  left_end at i = left-next at Next.end i

  pub left-stray : (at p : ℕ) → Next.stray p ≡ next text at → left text at ≡ []
  left-stray at p i = left-next at (Next.stray p) i

  pub inside-text : (at : ℕ) (t : Terminal) (from to : ℕ) → Next.token t from to ≡ next text at → (at ≤ from) × (from < to) × (to ≤ length text)
  inside-text at t from to i = (known_by text at (Next.token t from to) i).inside

  -- a string has its two quotes
  quotes : (t : Terminal) → sort_of t ≡ sort.Str → 2 ≤ length (spelling t)
  quotes (identifier w) e = let z : ◌≡◌ {A = ℕ} 0 1 = cc in absurd (omega arith)
  quotes (integer w) e = let z : ◌≡◌ {A = ℕ} 0 1 = cc in absurd (omega arith)
  quotes (field w) e = let z : ◌≡◌ {A = ℕ} 0 1 = cc in absurd (omega arith)
  quotes (string w) e = let n = length-append w (34 ∷ []) in omega arith
  quotes (keyword k) e = let z : ◌≡◌ {A = ℕ} 0 1 = cc in absurd (omega arith)
  quotes (symbol s) e = let z : ◌≡◌ {A = ℕ} 0 1 = cc in absurd (omega arith)

  pub quoted-bytes : (at : ℕ) (t : Terminal) (from to : ℕ) → Next.token t from to ≡ next text at → sort_of t ≡ sort.Str → from + 2 ≤ to
  quoted-bytes at t from to i e = let n = wide at t from to i in let q = quotes t e in omega arith

  before-all : (p : Placed) (r : Tokens) (ps : List Placed) → before p r ≡ Tokens.all ps → (qs : List Placed) × (r ≡ Tokens.all qs) × (p ∷ qs ≡ ps)
  before-all p (Tokens.all qs) ps e = (qs, refl, cc)
  before-all p (Tokens.stray q) ps e = let z : ◌≡◌ {A = ℕ} 0 1 = cc in absurd (omega arith)

  -- where every byte belongs to a token, those that are left are the scan's
  scanned-left : (d at : ℕ) → length text - at < d → (ps : List Placed) → scan at 0 (drop at text) ≡ Tokens.all ps → up_to d text at ≡ ps
  scanned-left zero at h ps e = absurd (not-suc-le-zero h)
  scanned-left (suc d) at h ps e = opened d at ∙ go (next text at) refl (scanned-left d)
    where
      go : (x : Next) → next text at ≡ x → ((q : ℕ) → length text - q < d → (qs : List Placed) → scan q 0 (drop q text) ≡ Tokens.all qs → up_to d text q ≡ qs) → onward (next text at) (up_to d text) ≡ ps
      go (Next.token t from to) i again =
          let k = known_by text at (Next.token t from to) (sym i) in
          let j = k.inside in
          let b = before-all (record { token = t; place = from }) (scan to 0 (drop to text)) ps (sym k.scanned.0 ∙ e) in
          ap (λ x. onward x (up_to d text)) i ∙ ap (λ l. record { token = t; place = from } ∷ l) (again to (omega arith) b.0 b.1) ∙ b.2
      go Next.end i again =
          let k = (known_by text at Next.end (sym i)).scanned in
          ap (λ x. onward x (up_to d text)) i ∙ cc
      go (Next.stray p) i again =
          let k = (known_by text at (Next.stray p) (sym i)).scanned in
          let z : ◌≡◌ {A = ℕ} 0 1 = cc in
          absurd (omega arith)

  pub left-all : (ps : List Placed) → tokens text ≡ Tokens.all ps → left text 0 ≡ ps
  unfolding left
  left-all ps e = scanned-left (suc (length text - 0)) 0 (omega arith) ps e

  all-by : (r : Tokens) → None ≡ judged r → (ps : List Placed) × (r ≡ Tokens.all ps)
  all-by (Tokens.all ps) e = (ps, refl)
  all-by (Tokens.stray p) e = let z : ◌≡◌ {A = ℕ} 0 1 = cc in absurd (omega arith)

  stray-by : (r : Tokens) (p : ℕ) → Some p ≡ judged r → r ≡ Tokens.stray p
  stray-by (Tokens.all ps) p e = let z : ◌≡◌ {A = ℕ} 0 1 = cc in absurd (omega arith)
  stray-by (Tokens.stray q) p e = cc

  -- a text that the check accepts has tokens
  pub tokens-all : None ≡ judged (tokens text) → tokens text ≡ Tokens.all (left text 0)
  tokens-all e = let a = all-by (tokens text) e in a.1 ∙ ap Tokens.all (sym (left-all a.0 a.1))

  pub tokens-stray : (p : ℕ) → Some p ≡ judged (tokens text) → tokens text ≡ Tokens.stray p
  tokens-stray p e = stray-by (tokens text) p e
