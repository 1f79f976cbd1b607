-- What is left of a text, one token on. Assumes nothing.
use Rattle.std.proofs.Common.{◌≡◌, ℕ, ◌+◌, ◌<◌, ◌≤◌, Bool, true, false, List, [], ◌∷◌, ◌++◌, length, drop, Some, None, Option, sym, refl, ap, ◌∙◌, subst, ⊎_elim, add-zero, arith}
use Rattle.std.proofs.lemmas.List.{drop-drop, drop_all, drop_at, length-drop, length-append}
use Rattle.std.proofs.lemmas.Bool.{cases_lt, cond-true, cond-false}
use Rattle.std.specs.List.{take_while}
use Rattle.lexer.specs.Byte.{blank}
use Rattle.lexer.specs.Token.{Terminal, spelling}
use Rattle.lexer.specs.Lexing.{first, placed, next, Next}
use Rattle.lexer.specs.Tokens.{Placed, Tokens, all, stray, before, took, scan, judged}
use Rattle.lexer.specs.Law.{Stops, Begins, Reads, here, gap, item, Stuck, stuck, Stands, Inside}
use Rattle.lexer.proofs.Front.{front-passes, front-stops}
use Rattle.lexer.proofs.Placing.{next-end, next-placed}
use Rattle.lexer.proofs.Runs.{left, split}
use Rattle.lexer.proofs.Sound.{first-sound}
use Rattle.lexer.proofs.Complete.{first-complete}
use Rattle.lexer.proofs.Reading.{scan-item, spelled}

-- the scan of what is left says the same as the scan from `at` on
abbrev pub Onward : List ℕ → ℕ → Next → Type 0
Onward text at (Next.token t from to) = judged (scan at 0 (drop at text)) ≡ judged (scan to 0 (drop to text))
Onward text at Next.end = judged (scan at 0 (drop at text)) ≡ None
Onward text at (Next.stray p) = judged (scan at 0 (drop at text)) ≡ Some p

-- the scan goes on behind the token, whose bytes stand in the text
abbrev pub Scanned : List ℕ → ℕ → Next → Type 0
Scanned text at (Next.token t from to) =
    (scan at 0 (drop at text) ≡ before (record { token = t; place = from }) (scan to 0 (drop to text))) × (drop from text ≡ spelling t ++ drop to text)
Scanned text at Next.end = scan at 0 (drop at text) ≡ all []
Scanned text at (Next.stray p) = scan at 0 (drop at text) ≡ stray p

-- all that is said of the next token
pub record Known (text : List ℕ) (at : ℕ) (x : Next) : Type 0 where
  pub scanned : Scanned text at x
  pub onward : Onward text at x
  pub inside : Inside (length text) at x
  pub stands : Stands text at x

blanks-by : (b : ℕ) (bs : List ℕ) (at : ℕ) (x : Bool) → blank b ≡ x
    → scan (at + 1) 0 bs ≡ scan (at + 1 + length (take_while blank bs)) 0 (left blank bs)
    → scan at 0 (b ∷ bs) ≡ scan (at + length (take_while blank (b ∷ bs))) 0 (left blank (b ∷ bs))
unfolding scan
blanks-by b bs at true e again =
    let k : at + 1 + length (take_while blank bs) ≡ at + length (b ∷ take_while blank bs) = omega arith in
    cond-true (blank b) _ _ e ∙ again ∙ ap (λ a. scan a 0 (left blank bs)) k
    ∙ sym (ap (λ l. scan (at + length l) 0 (drop (length l) (b ∷ bs))) (front-passes blank b bs e))
blanks-by b bs at false e again =
    ap (λ a. scan a 0 (b ∷ bs)) (sym (add-zero at)) ∙ sym (ap (λ l. scan (at + length l) 0 (drop (length l) (b ∷ bs))) (front-stops blank b bs e))

-- blanks are passed over
scan-blanks : (bs : List ℕ) (at : ℕ) → scan at 0 bs ≡ scan (at + length (take_while blank bs)) 0 (left blank bs)
unfolding scan
scan-blanks [] at = refl
scan-blanks (b ∷ bs) at = blanks-by b bs at (blank b) refl (scan-blanks bs (at + 1))

reads-blanks-by : (b : ℕ) (bs : List ℕ) (at : ℕ) (ps : List Placed) (rest : List ℕ) (x : Bool) → blank b ≡ x
    → (Reads (at + 1 + length (take_while blank bs)) (left blank bs) ps rest → Reads (at + 1) bs ps rest)
    → Reads (at + length (take_while blank (b ∷ bs))) (left blank (b ∷ bs)) ps rest → Reads at (b ∷ bs) ps rest
reads-blanks-by b bs at ps rest true e again r =
    let k : at + length (b ∷ take_while blank bs) ≡ at + 1 + length (take_while blank bs) = omega arith in
    let r' : Reads (at + length (b ∷ take_while blank bs)) (left blank bs) ps rest = rw (front-passes blank b bs e) at r in
    gap e (again (subst (λ a. Reads a (left blank bs) ps rest) k r'))
reads-blanks-by b bs at ps rest false e again r =
    let r' : Reads (at + 0) (b ∷ bs) ps rest = rw (front-stops blank b bs e) at r in
    subst (λ a. Reads a (b ∷ bs) ps rest) (add-zero at) r'

-- what is read behind blanks is read with them
reads-blanks : (bs : List ℕ) (at : ℕ) (ps : List Placed) (rest : List ℕ) → Reads (at + length (take_while blank bs)) (left blank bs) ps rest → Reads at bs ps rest
reads-blanks [] at ps rest r = subst (λ a. Reads a [] ps rest) (add-zero at) r
reads-blanks (b ∷ bs) at ps rest r = reads-blanks-by b bs at ps rest (blank b) refl (reads-blanks bs (at + 1) ps rest) r

judged-before : (p : Placed) (r : Tokens) → judged (before p r) ≡ judged r
judged-before p (all ps) = refl
judged-before p (stray q) = refl

-- a byte that is no blank begins a token or is stray
scan-first : (at : ℕ) (bs : List ℕ) (o : Option Terminal) → Stops blank bs → 0 < length bs → first bs ≡ o → scan at 0 bs ≡ took at (λ n. scan (at + 1) n (drop 1 bs)) o
unfolding scan
scan-first at [] o s h e = absurd (omega arith)
scan-first at (b ∷ bs) o s h e = cond-false (blank b) _ _ s ∙ ap (took at (λ n. scan (at + 1) n bs)) e

found : (bytes : List ℕ) (t : Terminal) → first bytes ≡ Some t → (more : List ℕ) × Begins bytes t more
found [] t f = let z : ◌≡◌ {A = ℕ} 0 1 = cc in absurd (omega arith)
found (b ∷ bs) t f = first-sound b bs t f

halting : (bytes : List ℕ) → Stops blank bytes → 0 < length bytes → first bytes ≡ None → Stuck bytes
halting [] s h e = absurd (omega arith)
halting (b ∷ bs) s h e = stuck s (λ t more g. let f = first-complete (b ∷ bs) t more g in let z : ◌≡◌ {A = ℕ} 0 1 = cc in omega arith)

-- behind the blanks, at `from`, there is a byte
module _ (text : List ℕ) (at from : ℕ) (past : at ≤ from) (inside : from < length text) (same : scan at 0 (drop at text) ≡ scan from 0 (drop from text)) (stop : Stops blank (drop from text)) where
  left-some : 0 < length (drop from text)
  left-some = simp length-drop (omega arith)

  -- the token's bytes end where the rest of the text begins
  standing : (t : Terminal) → first (drop from text) ≡ Some t → Begins (drop from text) t (drop (from + length (spelling t)) text)
  standing t e =
      let g = found (drop from text) t e in
      let n = length (spelling t) in
      let rest : g.0 ≡ drop (from + n) text = sym (drop_at (spelling t) g.0 n refl) ∙ ap (drop n) (sym g.1.written) ∙ drop-drop n from text in
      subst (Begins (drop from text) t) rest g.1

  inside-token : (t : Terminal) → Begins (drop from text) t (drop (from + length (spelling t)) text) → Inside (length text) at (placed from (Some t))
  inside-token t g =
      let p = spelled t g.formed in
      let k = ap length g.written in
      let m = length-append (spelling t) (drop (from + length (spelling t)) text) in
      let d = length-drop from text in
      (omega arith, omega arith, omega arith)

  known-first : (skip : (ps : List Placed) (rest : List ℕ) → Reads from (drop from text) ps rest → Reads at (drop at text) ps rest)
      → (o : Option Terminal) → first (drop from text) ≡ o → Known text at (placed from o)
  known-first skip None e =
      let s = same ∙ scan-first from (drop from text) None stop left-some e in
      record {
        scanned = s;
        onward = ap judged s;
        inside = (past, inside);
        stands = (skip [] (drop from text) here, halting (drop from text) stop left-some e);
      }
  known-first skip (Some t) e =
      let g = standing t e in
      let s = same ∙ scan-item (drop from text) from t _ g in
      record {
        scanned = (s, g.written);
        onward = ap judged s ∙ judged-before _ _;
        inside = inside-token t g;
        stands = skip _ _ (item g here);
      }

module _ (text : List ℕ) (at : ℕ) where
  from : ℕ
  from = at + length (take_while blank (drop at text))

  left_is : left blank (drop at text) ≡ drop from text
  unfolding from
  left_is = drop-drop (length (take_while blank (drop at text))) at text

  same-scan : scan at 0 (drop at text) ≡ scan from 0 (drop from text)
  unfolding from
  same-scan = scan-blanks (drop at text) at ∙ ap (scan from 0) left_is

  stopped : Stops blank (drop from text)
  stopped = subst (Stops blank) left_is (split blank (drop at text)).stopping

  skipped : (ps : List Placed) (rest : List ℕ) → Reads from (drop from text) ps rest → Reads at (drop at text) ps rest
  unfolding from
  skipped ps rest r = reads-blanks (drop at text) at ps rest (subst (λ l. Reads from l ps rest) (sym left_is) r)

  ended : length text ≤ from → drop from text ≡ []
  ended h = drop_all from text h

  known : Known text at (next text at)
  unfolding from scan
  known =
      ⊎_elim
      (λ h. subst (Known text at) (sym (next-placed text at from refl h)) (known-first text at from (omega arith) h same-scan stopped skipped (first (drop from text)) refl))
      (λ h. subst (Known text at) (sym (next-end text at from refl h))
      (record { scanned = same-scan ∙ ap (scan from 0) (ended h); onward = ap judged (same-scan ∙ ap (scan from 0) (ended h)); inside = tt; stands = skipped [] [] (subst (λ l. Reads from l [] []) (sym (ended h)) here) }))
      (cases_lt from (length text))

-- of an answer that is the next
pub known_by : (text : List ℕ) (at : ℕ) (x : Next) → x ≡ next text at → Known text at x
known_by text at x e = subst (Known text at) (sym e) (known text at)
