-- What the code cuts out of a text is the token that the definition has there. Assumes nothing.
use Rattle.std.proofs.Common.{◌≡◌, ℕ, suc, ◌+◌, ◌-◌, ◌<◌, ◌≤◌, Bool, true, false, cond, ltb, List, [], ◌∷◌, length, get_or, take, drop, is_some, Some, None, Option, sym, refl, ap, ◌∙◌, add-zero, arith}
use Rattle.std.proofs.lemmas.List.{drop_more, at_drop_more, get_or-drop, length-append}
use Rattle.std.proofs.lemmas.Bool.{lt-ltb, le-ltb}
use Rattle.std.specs.List.{take_while}
use Rattle.lexer.specs.declared.token.Keyword.{Keyword}
use Rattle.lexer.specs.Keyword.{keyword_of}
use Rattle.lexer.specs.Token.{Terminal, field, string, spelling}
use Rattle.lexer.specs.declared.byte.ByteKind.{ByteKind}
use Rattle.lexer.specs.declared.byte.Run.TheVariants.{Blanks, Quoted}
use Rattle.lexer.specs.Byte.{digit, goes_on, kind_of}
use Rattle.lexer.specs.Lexing.{worded, named, word_of, integer_of, minus_of, string_of, begun, first, placed, starts, next, token, end}
use Rattle.lexer.proofs.Front.{take-front}
use Rattle.lexer.proofs.Keywords.{keyword-spells}

-- a token stands at its place when its bytes end where the code says
pub placed-as : (x t : Terminal) (from to : ℕ) → x ≡ t → to ≡ from + length (spelling t) → token x from to ≡ placed from (Some t)
placed-as x t from to e l = (λ i. token (e i) from (l i))

module _ (f : ℕ → Bool) (text : List ℕ) (from to : ℕ) (ends : to ≡ from + 1 + length (take_while f (drop (from + 1) text))) where
  -- the run behind the first byte
  pub cut-behind : take (to - (from + 1)) (drop (from + 1) text) ≡ take_while f (drop (from + 1) text)
  cut-behind =
      let n : to - (from + 1) ≡ length (take_while f (drop (from + 1) text)) = omega arith in
      ap (λ k. take k (drop (from + 1) text)) n ∙ take-front f (drop (from + 1) text)

  -- the first byte with the run behind it
  pub cut : from < length text → take (to - from) (drop from text) ≡ get_or text from 0 ∷ take_while f (drop (from + 1) text)
  cut h =
      let n : to - from ≡ suc (length (take_while f (drop (from + 1) text))) = omega arith in
      (λ i. take (n i) (drop_more text from 0 h i)) ∙ ap (λ l. get_or text from 0 ∷ l) (take-front f (drop (from + 1) text))

worded-by : (w : List ℕ) (o : Option Keyword) → keyword_of w ≡ o → length (spelling (worded w o)) ≡ length w
worded-by w None e = refl
worded-by w (Some k) e = ap length (sym (keyword-spells w k e))

-- a word has its letters, keyword or not
pub length-worded : (w : List ℕ) → length (spelling (worded w (keyword_of w))) ≡ length w
length-worded w = worded-by w (keyword_of w) refl

pub named_some : (w : List ℕ) (k : Option Keyword) → true ≡ is_some (named w k) → named w k ≡ Some (field (64 ∷ w))
named_some [] k e = let z : ◌≡◌ {A = ℕ} 0 1 = cc in absurd (omega arith)
named_some (b ∷ bs) None e = refl
named_some (b ∷ bs) (Some k) e = let z : ◌≡◌ {A = ℕ} 0 1 = cc in absurd (omega arith)

pub named_none : (w : List ℕ) (k : Option Keyword) → false ≡ is_some (named w k) → named w k ≡ None
named_none [] k e = refl
named_none (b ∷ bs) None e = let z : ◌≡◌ {A = ℕ} 0 1 = cc in absurd (omega arith)
named_none (b ∷ bs) (Some k) e = refl

pub string-closed : (bs : List ℕ) → length (take_while (goes_on Quoted) bs) < length bs → string_of bs ≡ Some (string (take_while (goes_on Quoted) bs))
string-closed bs h = ap (λ t. cond t (Some (string (take_while (goes_on Quoted) bs))) None) (lt-ltb _ _ h)

pub string-open : (bs : List ℕ) → length bs ≤ length (take_while (goes_on Quoted) bs) → string_of bs ≡ None
string-open bs h = ap (λ t. cond t (Some (string (take_while (goes_on Quoted) bs))) None) (le-ltb _ _ h)

pub length-string : (w : List ℕ) → length (spelling (string w)) ≡ length w + 2
length-string w = simp length-append (omega arith)

-- the byte behind a `-` decides
pub minus-by : (text : List ℕ) (from : ℕ) (t : Bool) → t ≡ digit (get_or text (from + 1) 0)
    → minus_of (get_or text from 0) (drop (from + 1) text) ≡ cond t (integer_of (get_or text from 0) (drop (from + 1) text)) (word_of (get_or text from 0) (drop (from + 1) text))
minus-by text from t h =
    let r : get_or (drop (from + 1) text) 0 0 ≡ get_or text (from + 1) 0 = get_or-drop (from + 1) text 0 0 ∙ ap (λ n. get_or text n 0) (add-zero (from + 1)) in
    ap (λ b. cond b (integer_of (get_or text from 0) (drop (from + 1) text)) (word_of (get_or text from 0) (drop (from + 1) text))) (ap digit r ∙ sym h)

-- the kind of the first byte decides
pub first_by : (text : List ℕ) (from : ℕ) (k : ByteKind) → from < length text → k ≡ kind_of (get_or text from 0)
    → placed from (begun (get_or text from 0) (drop (from + 1) text) k) ≡ placed from (first (drop from text))
first_by text from k h e =
    ap (λ j. placed from (begun (get_or text from 0) (drop (from + 1) text) j)) e ∙ sym (at_drop_more (λ l. placed from (first l)) text from 0 h)

-- behind blanks the first token decides, and the text ends where no byte is left
module _ (text : List ℕ) (at from : ℕ) (blanks : from ≡ at + length (take_while (goes_on Blanks) (drop at text))) where
  next-at : next text at ≡ cond (ltb from (length text)) (placed from (first (drop from text))) end
  unfolding next starts
  next-at = ap (λ n. cond (ltb n (length text)) (placed n (first (drop n text))) end) (sym blanks)

  pub next-end : length text ≤ from → next text at ≡ end
  next-end h = next-at ∙ ap (λ b. cond b (placed from (first (drop from text))) end) (le-ltb _ _ h)

  pub next-placed : from < length text → next text at ≡ placed from (first (drop from text))
  next-placed h = next-at ∙ ap (λ b. cond b (placed from (first (drop from text))) end) (lt-ltb _ _ h)

pub next_past : (text : List ℕ) (at : ℕ) → length text ≤ at → next text at ≡ end
next_past text at h = next-end text at _ refl (omega arith)

-- what the code cuts out of a text, placed
pub ruleset cutting = (placed-as, cut, cut-behind, length-worded, length-string, minus-by, named_some, named_none, string-open, string-closed, first_by)
