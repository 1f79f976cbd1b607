-- The search of a word among the keywords. Assumes nothing.
use Rattle.std.proofs.Common.{◌≡◌, ℕ, ◌+◌, ◌<◌, ◌≤◌, Bool, true, false, cond, List, [], ◌∷◌, length, get_or, drop, Some, None, sym, refl, ap, ◌∙◌, arith}
use Rattle.std.specs.Prelude.{Option}
use Rattle.std.specs.List.{find}
use Rattle.std.specs.Str.{bytes_eq}
use Rattle.std.proofs.lemmas.Slice.Eq.{bytes_eq-Decides}
use Rattle.std.proofs.lemmas.List.{at_drop_more, at_drop_all}
use Rattle.lexer.specs.declared.token.Keyword.{Keyword}
use Rattle.lexer.specs.declared.token.Keyword.TheVariants.{Class}
use Rattle.lexer.specs.Keyword.{word, keywords, keyword_of}

-- the first of these keywords that is written so
abbrev pub among : List Keyword → List ℕ → Option Keyword
among ks w = find (λ k. bytes_eq w (word k)) ks

pub keywords-are-13 : length keywords ≡ 13
keywords-are-13 = refl

-- the search, one keyword on
among-at : (ks : List Keyword) (w : List ℕ) (i : ℕ) (t : Bool) → i < length ks → t ≡ bytes_eq w (word (get_or ks i Class))
    → among (drop i ks) w ≡ cond t (Some (get_or ks i Class)) (among (drop (i + 1) ks) w)
among-at ks w i t h e =
    at_drop_more (λ l. among l w) ks i Class h ∙ ap (λ b. cond b (Some (get_or ks i Class)) (among (drop (i + 1) ks) w)) (sym e)

pub all_left : (w : List ℕ) → among (drop 0 keywords) w ≡ keyword_of w
unfolding keyword_of
all_left w = refl

-- the word is compared with x, which is the i-th keyword's
module _ (w x : List ℕ) (i : ℕ) (h : i < length keywords) (letters : x ≡ word (get_or keywords i Class)) where
  compared : (t : Bool) → t ≡ bytes_eq w x → t ≡ bytes_eq w (word (get_or keywords i Class))
  compared t e = e ∙ ap (bytes_eq w) letters

  pub one-hits : true ≡ bytes_eq w x → among (drop i keywords) w ≡ Some (get_or keywords i Class)
  one-hits e = among-at keywords w i true h (compared true e)

  pub one-misses : false ≡ bytes_eq w x → among (drop i keywords) w ≡ among (drop (i + 1) keywords) w
  one-misses e = among-at keywords w i false h (compared false e)

pub none_left : (w : List ℕ) (i : ℕ) → length keywords ≤ i → among (drop i keywords) w ≡ None
none_left w i h = at_drop_all (λ l. among l w) keywords i h

found-spells : (ks : List Keyword) (w : List ℕ) (k : Keyword) → find (λ k. bytes_eq w (word k)) ks ≡ Some k → w ≡ word k
found-spells [] w k e = let z : ◌≡◌ {A = ℕ} 0 1 = cc in absurd (omega arith)
found-spells (j ∷ ks) w k e = by (bytes_eq w (word j)) refl e (found-spells ks w k) where
  by : (t : Bool) → bytes_eq w (word j) ≡ t → cond t (Some j) (find (λ k. bytes_eq w (word k)) ks) ≡ Some k → (find (λ k. bytes_eq w (word k)) ks ≡ Some k → w ≡ word k) → w ≡ word k
  by true q e again = (bytes_eq-Decides w (word j)).0 q ∙ ap word (cc)
  by false q e again = again e

-- a keyword is found by its own letters only
pub keyword-spells : (w : List ℕ) (k : Keyword) → keyword_of w ≡ Some k → w ≡ word k
unfolding keyword_of
keyword-spells w k e = found-spells keywords w k e
