-- The tokens of a text are what it reads as, and nothing else is. Assumes nothing.
use Rattle.std.proofs.Common.{◌≡◌, ℕ, zero, suc, pred, ◌+◌, ◌<◌, ◌≤◌, Bool, true, false, cond, List, [], ◌∷◌, ◌++◌, length, drop, Some, None, Option, sym, refl, ap, ◌∙◌, subst, add-zero, arith}
use Rattle.std.proofs.lemmas.List.{append_assoc, length-append, drop_at}
use Rattle.std.proofs.lemmas.Bool.{cond-true, cond-false}
use Rattle.lexer.specs.Byte.{blank}
use Rattle.lexer.specs.Keyword.{keyword_of}
use Rattle.lexer.specs.Token.{Terminal, identifier, integer, field, string, keyword, symbol, spelling}
use Rattle.lexer.specs.Lexing.{begun, first}
use Rattle.lexer.specs.Tokens.{Placed, Tokens, all, stray, before, took, scan, tokens}
use Rattle.lexer.specs.Law.{Formed, Begins, Reads, here, gap, item, Stuck, stuck, Law}
use Rattle.lexer.proofs.ByteKinds.{kind-of-blank}
use Rattle.lexer.proofs.Sound.{first-sound}
use Rattle.lexer.proofs.Complete.{keyword-found, keyword-word, first-complete}
use Rattle.lexer.proofs.Longest.{longest}

-- bytes inside a token are passed over
scan-inside : (at n : ℕ) (bs : List ℕ) → n ≤ length bs → scan at n bs ≡ scan (at + n) 0 (drop n bs)
unfolding scan
scan-inside at zero bs h = ap (λ a. scan a 0 bs) (omega arith)
scan-inside at (suc n) [] h = absurd (omega arith)
scan-inside at (suc n) (b ∷ bs) h = scan-inside (at + 1) n bs (omega arith) ∙ ap (λ a. scan a 0 (drop n bs)) (omega arith)

no-token-is-blank : (b : ℕ) (bs : List ℕ) (t : Terminal) → first (b ∷ bs) ≡ Some t → (x : Bool) → blank b ≡ x → blank b ≡ false
no-token-is-blank b bs t e true x =
    let n : first (b ∷ bs) ≡ None = ap (begun b bs) (kind-of-blank b x) in
    let z : ◌≡◌ {A = ℕ} 0 1 = cc in
    absurd (omega arith)
no-token-is-blank b bs t e false x = x

-- the bytes read so far, and a byte at p that stops the reading
record Halted (at : ℕ) (bs : List ℕ) (p : ℕ) : Type 0 where
  read : List Placed
  rest : List ℕ
  reads : Reads at bs read rest
  halts : Stuck rest
  place : p + length rest ≡ at + length bs

-- what the scan's answer says
abbrev Meant : ℕ → List ℕ → Tokens → Type 0
Meant at bs (all ps) = Reads at bs ps []
Meant at bs (stray p) = Halted at bs p

pub spelled : (t : Terminal) → Formed t → 0 < length (spelling t)
spelled (identifier w) f = f.0.0
spelled (integer []) f = absurd f
spelled (integer (b ∷ bs)) f = omega arith
spelled (field []) f = absurd f
spelled (field (b ∷ w)) f = omega arith
spelled (string w) f = omega arith
spelled (keyword k) f = (keyword-word k).0
spelled (symbol s) f = omega arith

-- behind the first byte of a token
module _ (at b : ℕ) (bs : List ℕ) (t : Terminal) (more : List ℕ) (g : Begins (b ∷ bs) t more) where
  rest-inside : pred (length (spelling t)) ≤ length bs
  rest-inside = let n = ap length g.written in let m = length-append (spelling t) more in omega arith

  rest-left : drop (pred (length (spelling t))) bs ≡ more
  rest-left =
      let k : length (spelling t) ≡ suc (pred (length (spelling t))) = let p = spelled t g.formed in omega arith in
      ap (λ n. drop n (b ∷ bs)) (sym k) ∙ ap (drop (length (spelling t))) g.written ∙ drop_at (spelling t) more (length (spelling t)) refl

  rest-place : at + 1 + pred (length (spelling t)) ≡ at + length (spelling t)
  rest-place = let p = spelled t g.formed in omega arith

meant-gap : (at b : ℕ) (bs : List ℕ) (r : Tokens) → blank b ≡ true → Meant (at + 1) bs r → Meant at (b ∷ bs) r
meant-gap at b bs (all ps) e m = gap e m
meant-gap at b bs (stray p) e m =
    record { read = m.read; rest = m.rest; reads = gap e m.reads; halts = m.halts; place = omega arith }

meant-item : (at : ℕ) (bytes : List ℕ) (t : Terminal) (more : List ℕ) (r : Tokens) → Begins bytes t more → Meant (at + length (spelling t)) more r
    → Meant at bytes (before (record { token = t; place = at }) r)
meant-item at bytes t more (all ps) g m = item g m
meant-item at bytes t more (stray p) g m =
    record {
      read = record { token = t; place = at } ∷ m.read;
      rest = m.rest;
      reads = item g m.reads;
      halts = m.halts;
      place = let n = ap length g.written in let k = length-append (spelling t) more in omega arith;
    }

-- what the scan says of the bytes behind the first is known
module _ (at b : ℕ) (bs : List ℕ) (again : (n : ℕ) → n ≤ length bs → Meant (at + 1 + n) (drop n bs) (scan (at + 1) n bs)) where
  meant-took : blank b ≡ false → (o : Option Terminal) → first (b ∷ bs) ≡ o → Meant at (b ∷ bs) (took at (λ n. scan (at + 1) n bs) o)
  meant-took e None f =
      record {
        read = [];
        rest = b ∷ bs;
        reads = here;
        halts = stuck e (λ t more g. let h = first-complete (b ∷ bs) t more g in let z : ◌≡◌ {A = ℕ} 0 1 = cc in omega arith);
        place = refl;
      }
  meant-took e (Some t) f =
      let s = first-sound b bs t f in
      let m = again (pred (length (spelling t))) (rest-inside at b bs t s.0 s.1) in
      let r = scan (at + 1) (pred (length (spelling t))) bs in
      let here_on : Meant (at + length (spelling t)) s.0 r =
      subst (λ a. Meant a s.0 r) (rest-place at b bs t s.0 s.1) (subst (λ l. Meant (at + 1 + pred (length (spelling t))) l r) (rest-left at b bs t s.0 s.1) m) in
      meant-item at (b ∷ bs) t s.0 r s.1 here_on

  meant-byte : (x : Bool) → blank b ≡ x → Meant at (b ∷ bs) (cond x (scan (at + 1) 0 bs) (took at (λ n. scan (at + 1) n bs) (first (b ∷ bs))))
  meant-byte true e =
      let m : Meant (at + 1) bs (scan (at + 1) 0 bs) = subst (λ a. Meant a bs (scan (at + 1) 0 bs)) (add-zero (at + 1)) (again 0 (omega arith)) in
      meant-gap at b bs (scan (at + 1) 0 bs) e m
  meant-byte false e = meant-took e (first (b ∷ bs)) refl

scan-meant : (bs : List ℕ) (at n : ℕ) → n ≤ length bs → Meant (at + n) (drop n bs) (scan at n bs)
unfolding scan
scan-meant [] at zero h = here
scan-meant [] at (suc n) h = absurd (omega arith)
scan-meant (b ∷ bs) at zero h =
    subst (λ a. Meant a (b ∷ bs) (scan at 0 (b ∷ bs))) (sym (add-zero at)) (meant-byte at b bs (scan-meant bs (at + 1)) (blank b) refl)
scan-meant (b ∷ bs) at (suc n) h =
    let e : at + 1 + n ≡ at + suc n = omega arith in
    subst (λ a. Meant a (drop n bs) (scan (at + 1) n bs)) e (scan-meant bs (at + 1) n (omega arith))

tokens-meant : (text : List ℕ) → Meant 0 text (tokens text)
tokens-meant text = scan-meant text 0 0 (omega arith)

-- a token that stands here is the first one that the scan tells of
pub scan-item : (bytes : List ℕ) (at : ℕ) (t : Terminal) (more : List ℕ) → Begins bytes t more
    → scan at 0 bytes ≡ before (record { token = t; place = at }) (scan (at + length (spelling t)) 0 more)
unfolding scan
scan-item [] at t more g =
    let n = ap length g.written in
    let k = length-append (spelling t) more in
    let p = spelled t g.formed in
    absurd (omega arith)
scan-item (b ∷ bs) at t more g =
    let f = first-complete (b ∷ bs) t more g in
    let n = pred (length (spelling t)) in
    cond-false (blank b) _ _ (no-token-is-blank b bs t f (blank b) refl)
    ∙ ap (took at (λ k. scan (at + 1) k bs)) f
    ∙ ap (before (record { token = t; place = at }))
    (scan-inside (at + 1) n bs (rest-inside at b bs t more g)
    ∙ ap (λ a. scan a 0 (drop n bs)) (rest-place at b bs t more g)
    ∙ ap (scan (at + length (spelling t)) 0) (rest-left at b bs t more g))

reads-scan : {at : ℕ} {bytes : List ℕ} {ps : List Placed} → Reads at bytes ps [] → scan at 0 bytes ≡ all ps
unfolding scan
reads-scan here = refl
reads-scan (gap e r) = cond-true _ _ _ e ∙ reads-scan r
reads-scan {at} {bytes} (item {t = t} {more = more} g r) = scan-item bytes at t more g ∙ ap (before (record { token = t; place = at })) (reads-scan r)

-- the rest is what the bytes end with
reads_end : {at : ℕ} {bytes : List ℕ} {ps : List Placed} {rest : List ℕ} → Reads at bytes ps rest → (w : List ℕ) × (bytes ≡ w ++ rest)
reads_end here = ([], refl)
reads_end (gap {b = b} e r) = let s = reads_end r in (b ∷ s.0, ap (λ l. b ∷ l) s.1)
reads_end (item {t = t} g r) =
    let s = reads_end r in
    (spelling t ++ s.0, g.written ∙ ap (λ l. spelling t ++ l) s.1 ∙ sym (append_assoc (spelling t) s.0 _))

refused-at : (text : List ℕ) (p : ℕ) → Halted 0 text p → (ps : List Placed) × (Reads 0 text ps (drop p text) × Stuck (drop p text))
refused-at text p h =
    let s = reads_end h.reads in
    let n : length s.0 ≡ p = let k = ap length s.1 in let m = length-append s.0 h.rest in let q = h.place in omega arith in
    let e : h.rest ≡ drop p text = sym (drop_at s.0 h.rest p n) ∙ ap (drop p) (sym s.1) in
    (h.read, subst (λ l. Reads 0 text h.read l × Stuck l) e (h.reads, h.halts))

pub law : Law
law = record {
  written = λ text ps e. subst (Meant 0 text) e (tokens-meant text);
  unique = λ text ps r. reads-scan r;
  refused = λ text p e. refused-at text p (subst (Meant 0 text) e (tokens-meant text));
  longest = longest;
  reserved = λ bytes more w k g e.
      let f : keyword_of w ≡ Some k = ap keyword_of e ∙ keyword-found k in
      let n = g.formed.1 in
      let z : ◌≡◌ {A = ℕ} 0 1 = cc in
      omega arith;
}
