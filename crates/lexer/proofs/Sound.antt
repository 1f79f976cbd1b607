-- The token that the definition finds is written there, is formed, and goes no further. Assumes nothing.
use Rattle.std.proofs.Common.{◌≡◌, ℕ, ◌<◌, Bool, true, false, cond, ◌&&◌, eqb, ltb, ◌⊎◌, List, [], ◌∷◌, ◌++◌, length, get_or, Some, None, Option, sym, refl, ap, ◌∙◌, inl, inr, arith}
use Rattle.std.specs.Str.{bytes_eq}
use Rattle.std.proofs.lemmas.List.{append_assoc, length-append}
use Rattle.std.proofs.lemmas.Bool.{and_left, ltb-true, eqb-true, not-false}
use Rattle.std.specs.List.{take_while}
use Rattle.lexer.specs.declared.token.Keyword.{Keyword}
use Rattle.lexer.specs.declared.byte.ByteKind.{ByteKind}
use Rattle.lexer.specs.declared.byte.ByteKind.TheVariants.{Blank, Identifying, Minus, Digit, At, Quote, Sign, Stray}
use Rattle.lexer.specs.declared.byte.Run.TheVariants.{Quoted}
use Rattle.lexer.specs.Byte.{digit, identifying, goes_on, kind_of}
use Rattle.lexer.specs.Keyword.{keyword_of}
use Rattle.lexer.specs.Token.{Terminal, field, string, symbol}
use Rattle.lexer.specs.Lexing.{worded, named, word_of, integer_of, minus_of, begun, first}
use Rattle.lexer.specs.Law.{Stops, Begins}
use Rattle.lexer.proofs.Front.{front-passes, front-stops}
use Rattle.lexer.proofs.Keywords.{keyword-spells}
use Rattle.lexer.proofs.ByteKinds.{Tells, kind-tells}
use Rattle.lexer.proofs.Runs.{left, split, stops-never, stops-both}

-- some token is written here, up to some place
abbrev pub Found : List ℕ → Terminal → Type 0
Found bytes t = (more : List ℕ) × Begins bytes t more

abbrev lone : List ℕ → ℕ → Bool
lone w d = bytes_eq w (45 ∷ []) && digit d

module _ (b : ℕ) (bs : List ℕ) where
  abbrev run : List ℕ
  run = b ∷ take_while identifying bs

  begins-word : identifying b ≡ true → Stops (lone run) (left identifying bs) → (o : Option Keyword) → keyword_of run ≡ o → Begins (b ∷ bs) (worded run o) (left identifying bs)
  begins-word i l None e =
      let s = split identifying bs in
      record {
        formed = ((omega arith, (i, s.passing)), e);
        written = ap (λ x. b ∷ x) s.whole;
        parted = stops-both identifying (lone run) (left identifying bs) s.stopping l;
      }
  begins-word i l (Some k) e =
      let s = split identifying bs in
      record {
        formed = tt;
        written = ap (λ x. b ∷ x) s.whole ∙ ap (λ w. w ++ left identifying bs) (keyword-spells run k e);
        parted = s.stopping;
      }

  pub found_word : identifying b ≡ true → Stops (lone run) (left identifying bs) → Found (b ∷ bs) (word_of b bs)
  found_word i l = (left identifying bs, begins-word i l (keyword_of run) refl)

  pub found-integer : ((digit b ≡ true) ⊎ ((b ≡ 45) × (0 < length (take_while digit bs)))) → Found (b ∷ bs) (integer_of b bs)
  found-integer d =
      let s = split digit bs in
      (left digit bs, record { formed = (d, s.passing); written = ap (λ x. b ∷ x) s.whole; parted = s.stopping })

-- a byte that is no `-` is no lone `-`
not-lone : (b : ℕ) (bs : List ℕ) → eqb b 45 ≡ false → Stops (lone (run b bs)) (left identifying bs)
not-lone b bs e =
    stops-never (lone (run b bs)) (left identifying bs) (λ d. and_left (bytes_eq (run b bs) (45 ∷ [])) (digit d) (and_left (eqb b 45) (bytes_eq (take_while identifying bs) []) e))

-- a `-` before no digit
minus-word-by : (c : ℕ) (cs : List ℕ) (t : Bool) → identifying c ≡ t → digit c ≡ false → Stops (lone (run 45 (c ∷ cs))) (left identifying (c ∷ cs))
minus-word-by c cs true e d =
    let p = front-passes identifying c cs e in
    stops-never (lone (run 45 (c ∷ cs))) (left identifying (c ∷ cs)) (λ x. ap (λ w. lone (45 ∷ w) x) p)
minus-word-by c cs false e d =
    rw (front-stops identifying c cs e) d

minus-word : (bs : List ℕ) → digit (get_or bs 0 0) ≡ false → Stops (lone (run 45 bs)) (left identifying bs)
minus-word [] d = tt
minus-word (c ∷ cs) d = minus-word-by c cs (identifying c) refl d

minus-digits : (bs : List ℕ) → digit (get_or bs 0 0) ≡ true → 0 < length (take_while digit bs)
minus-digits [] d = let z : ◌≡◌ {A = ℕ} 0 1 = cc in absurd (omega arith)
minus-digits (c ∷ cs) d = rw (front-passes digit c cs d) (omega arith)

found-minus : (b : ℕ) (bs : List ℕ) → b ≡ 45 → (t : Bool) → digit (get_or bs 0 0) ≡ t → Found (b ∷ bs) (cond t (integer_of b bs) (word_of b bs))
found-minus b bs e true d = found-integer b bs (inr (e, minus-digits bs d))
found-minus b bs e false d =
    found_word b bs (ap identifying e) (rw e (minus-word bs d))

found-field : (b : ℕ) (bs w : List ℕ) → b ≡ 64 → take_while identifying bs ≡ w → (o : Option Keyword) → keyword_of w ≡ o → (t : Terminal) → named w o ≡ Some t → Found (b ∷ bs) t
found-field b bs [] e f o k t n = let z : ◌≡◌ {A = ℕ} 0 1 = cc in absurd (omega arith)
found-field b bs (c ∷ w) e f None k t n =
    let s = split identifying bs in
    let t-is : field (64 ∷ (c ∷ w)) ≡ t = cc in
    let begins : Begins (b ∷ bs) (field (64 ∷ (c ∷ w))) (left identifying bs) =
    record {
      formed = (refl, ((omega arith, rw f at s.passing), k));
      written = (λ i. e i ∷ (s.whole ∙ ap (λ x. x ++ left identifying bs) f) i);
      parted = s.stopping;
    } in
    (left identifying bs, rw t-is at begins)
found-field b bs (c ∷ w) e f (Some j) k t n = let z : ◌≡◌ {A = ℕ} 0 1 = cc in absurd (omega arith)

-- the byte that stops a string is its closing quote
closing : (w : List ℕ) (bs rest : List ℕ) → bs ≡ w ++ rest → length w < length bs → Stops (goes_on Quoted) rest → (more : List ℕ) × (bs ≡ w ++ 34 ∷ more)
closing w bs [] e h s = absurd (omega (arith, ap length e, length-append w []))
closing w bs (c ∷ cs) e h s = (cs, e ∙ ap (λ x. w ++ x ∷ cs) (eqb-true c 34 (not-false (eqb c 34) s)))

found-string : (b : ℕ) (bs : List ℕ) → b ≡ 34 → (x : Bool) → ltb (length (take_while (goes_on Quoted) bs)) (length bs) ≡ x → (t : Terminal)
    → cond x (Some (string (take_while (goes_on Quoted) bs))) None ≡ Some t → Found (b ∷ bs) t
found-string b bs e true l t n =
    let s = split (goes_on Quoted) bs in
    let w = take_while (goes_on Quoted) bs in
    let c = closing w bs (left (goes_on Quoted) bs) s.whole (ltb-true _ _ l) s.stopping in
    let t-is : string w ≡ t = cc in
    let begins : Begins (b ∷ bs) (string w) c.0 =
    record {
      formed = s.passing;
      written = (λ i. e i ∷ (c.1 ∙ sym (append_assoc w (34 ∷ []) c.0)) i);
      parted = stops-never (λ _. false) c.0 (λ _. refl);
    } in
    (c.0, rw t-is at begins)
found-string b bs e false l t n = let z : ◌≡◌ {A = ℕ} 0 1 = cc in absurd (omega arith)

found-kind : (b : ℕ) (bs : List ℕ) (k : ByteKind) → Tells b k → (t : Terminal) → begun b bs k ≡ Some t → Found (b ∷ bs) t
found-kind b bs Blank h t n = let z : ◌≡◌ {A = ℕ} 0 1 = cc in absurd (omega arith)
found-kind b bs Identifying h t n = let t-is : word_of b bs ≡ t = cc in rw t-is at (found_word b bs h.0 (not-lone b bs h.1))
found-kind b bs Minus h t n = let t-is : minus_of b bs ≡ t = cc in rw t-is at (found-minus b bs h (digit (get_or bs 0 0)) refl)
found-kind b bs Digit h t n = let t-is : integer_of b bs ≡ t = cc in rw t-is at (found-integer b bs (inl h))
found-kind b bs At h t n = found-field b bs (take_while identifying bs) h refl (keyword_of (take_while identifying bs)) refl t n
found-kind b bs Quote h t n = found-string b bs h (ltb (length (take_while (goes_on Quoted) bs)) (length bs)) refl t n
found-kind b bs (Sign s) h t n =
    let t-is : symbol s ≡ t = cc in
    let begins : Begins (b ∷ bs) (symbol s) bs = record { formed = tt; written = ap (λ x. x ∷ bs) h; parted = stops-never (λ _. false) bs (λ _. refl) } in
    (bs, rw t-is at begins)
found-kind b bs Stray h t n = let z : ◌≡◌ {A = ℕ} 0 1 = cc in absurd (omega arith)

pub first-sound : (b : ℕ) (bs : List ℕ) (t : Terminal) → first (b ∷ bs) ≡ Some t → Found (b ∷ bs) t
first-sound b bs t e = found-kind b bs (kind_of b) (kind-tells b) t e
