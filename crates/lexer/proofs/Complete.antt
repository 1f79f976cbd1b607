-- A token that is written somewhere is the one that the definition finds, and none there is longer. Assumes nothing.
use Rattle.std.proofs.Common.{◌≡◌, ℕ, ◌<◌, Bool, true, false, cond, ◌&&◌, eqb, ltb, ◌⊎◌, List, [], ◌∷◌, ◌++◌, length, get_or, Some, None, Option, refl, ap, ◌∙◌, inl, inr, arith}
use Rattle.std.specs.List.{AllByRecursion}
use Rattle.std.specs.Str.{bytes_eq}
use Rattle.std.proofs.lemmas.List.{append_assoc, length-append}
use Rattle.std.proofs.lemmas.Bool.{and_left, lt-ltb, eqb-true, and_parts}
use Rattle.std.proofs.lemmas.Bool.Decides.{nat_tests}
use Rattle.lexer.specs.declared.token.Keyword.{Keyword}
use Rattle.lexer.specs.declared.token.Keyword.TheVariants.{Class, Begin, End, Def, If, Then, Else, While, Do, New, InstanceOf, SelfWord, Nil}
use Rattle.lexer.specs.declared.byte.ByteKind.TheVariants.{Identifying, Minus}
use Rattle.lexer.specs.declared.byte.Run.TheVariants.{Quoted}
use Rattle.lexer.specs.Byte.{between, digit, identifying, goes_on}
use Rattle.lexer.specs.Keyword.{word, keyword_of}
use Rattle.lexer.specs.Token.{Terminal, identifier, integer, field, string, keyword, symbol, spelling, sign}
use Rattle.lexer.specs.Lexing.{worded, named, word_of, integer_of, begun, first}
use Rattle.lexer.specs.Law.{Word, Free, Formed, goes_with, Stops, Begins}
use Rattle.lexer.proofs.ByteKinds.{identifying-no-digit, kind-of-identifying, kind-of-digit, kind-of-sign}
use Rattle.lexer.proofs.Runs.{front-is, stops-never, stops_first, stops_second}

-- every keyword is of small letters
abbrev small : List ℕ → Bool
small [] = true
small (c ∷ w) = between 97 122 c && small w

keyword-small : (k : Keyword) → small (word k) ≡ true
keyword-small Class = refl
keyword-small Begin = refl
keyword-small End = refl
keyword-small Def = refl
keyword-small If = refl
keyword-small Then = refl
keyword-small Else = refl
keyword-small While = refl
keyword-small Do = refl
keyword-small New = refl
keyword-small InstanceOf = refl
keyword-small SelfWord = refl
keyword-small Nil = refl

pub keyword-found : (k : Keyword) → keyword_of (word k) ≡ Some k
unfolding keyword_of
keyword-found Class = refl
keyword-found Begin = refl
keyword-found End = refl
keyword-found Def = refl
keyword-found If = refl
keyword-found Then = refl
keyword-found Else = refl
keyword-found While = refl
keyword-found Do = refl
keyword-found New = refl
keyword-found InstanceOf = refl
keyword-found SelfWord = refl
keyword-found Nil = refl

small-identifies : (c : ℕ) → between 97 122 c ≡ true → identifying c ≡ true
small-identifies c e = grind (arith, nat_tests)

small-no-minus : (c : ℕ) → between 97 122 c ≡ true → eqb c 45 ≡ false
small-no-minus c e = grind (arith, nat_tests)

small_all : (w : List ℕ) → small w ≡ true → AllByRecursion (λ b. identifying b ≡ true) w
small_all [] e = tt
small_all (c ∷ w) e = let p = and_parts _ _ e in (small-identifies c p.0, small_all w p.1)

small-not-lone : (w : List ℕ) → small w ≡ true → bytes_eq w (45 ∷ []) ≡ false
small-not-lone [] e = refl
small-not-lone (c ∷ w) e = and_left (eqb c 45) (bytes_eq w []) (small-no-minus c (and_parts _ _ e).0)

keyword-long : (k : Keyword) → 0 < length (word k)
unfolding keyword_of
keyword-long k = by (word k) (keyword-found k) where
  by : (w : List ℕ) → keyword_of w ≡ Some k → 0 < length w
  by [] e = let z : ◌≡◌ {A = ℕ} 0 1 = cc in absurd (omega arith)
  by (c ∷ w) e = omega arith

pub keyword-word : (k : Keyword) → Word (word k)
keyword-word k = (keyword-long k, small_all (word k) (keyword-small k))

abbrev lone : List ℕ → ℕ → Bool
lone w d = bytes_eq w (45 ∷ []) && digit d

-- behind a `-` that begins a word there is no digit
minus-no-digit : (w more : List ℕ) → AllByRecursion (λ b. identifying b ≡ true) w → Stops (lone (45 ∷ w)) more → digit (get_or (w ++ more) 0 0) ≡ false
minus-no-digit [] [] a s = refl
minus-no-digit [] (c ∷ cs) a s = s
minus-no-digit (c ∷ w) more a s = identifying-no-digit c a.0

first-minus : (w more : List ℕ) → AllByRecursion (λ b. identifying b ≡ true) w → Stops (lone (45 ∷ w)) more → first (45 ∷ (w ++ more)) ≡ Some (word_of 45 (w ++ more))
first-minus w more a s = ap (λ t. Some (cond t (integer_of 45 (w ++ more)) (word_of 45 (w ++ more)))) (minus-no-digit w more a s)

word-by : (b : ℕ) (w more : List ℕ) (t : Bool) → eqb b 45 ≡ t → identifying b ≡ true → AllByRecursion (λ c. identifying c ≡ true) w → Stops (lone (b ∷ w)) more → first (b ∷ (w ++ more)) ≡ Some (word_of b (w ++ more))
word-by b w more true e i a s =
    let m = eqb-true b 45 e in
    rw m (first-minus w more a (rw m at s))
word-by b w more false e i a s = ap (begun b (w ++ more)) (kind-of-identifying b i ∙ ap (λ t. cond t Minus Identifying) e)

-- a word is found as a whole
first_word : (w more : List ℕ) → Word w → Stops identifying more → Stops (lone w) more → first (w ++ more) ≡ Some (worded w (keyword_of w))
first_word [] more f s l = absurd (omega arith)
first_word (b ∷ w) more f s l =
    word-by b w more (eqb b 45) refl f.1.0 f.1.1 l
    ∙ ap (λ x. Some (worded (b ∷ x) (keyword_of (b ∷ x)))) (front-is identifying w more f.1.1 s)

pub first-integer : (b : ℕ) (bs more : List ℕ) → ((digit b ≡ true) ⊎ ((b ≡ 45) × (0 < length bs))) → AllByRecursion (λ d. digit d ≡ true) bs → first (b ∷ (bs ++ more)) ≡ Some (integer_of b (bs ++ more))
first-integer b bs more (inl d) a = ap (begun b (bs ++ more)) (kind-of-digit b d)
first-integer b [] more (inr m) a = absurd (omega arith)
first-integer b (c ∷ cs) more (inr m) a =
    rw m.0 (ap (λ t. Some (cond t (integer_of 45 ((c ∷ cs) ++ more)) (word_of 45 ((c ∷ cs) ++ more)))) a.0)

named-free : (w : List ℕ) (o : Option Keyword) → 0 < length w → o ≡ None → named w o ≡ Some (field (64 ∷ w))
named-free [] o h e = absurd (omega arith)
named-free (b ∷ bs) o h e = ap (named (b ∷ bs)) e

first_field : (w more : List ℕ) → Free w → Stops identifying more → first (64 ∷ (w ++ more)) ≡ Some (field (64 ∷ w))
first_field w more f s =
    ap (λ x. named x (keyword_of x)) (front-is identifying w more f.0.1 s) ∙ named-free w (keyword_of w) f.0.0 f.1

pub first-string : (w more : List ℕ) → AllByRecursion (λ b. goes_on Quoted b ≡ true) w → first (34 ∷ (w ++ 34 ∷ more)) ≡ Some (string w)
first-string w more a =
    let e = front-is (goes_on Quoted) w (34 ∷ more) a refl in
    let h : length w < length (w ++ 34 ∷ more) = simp length-append (omega arith) in
    ap (λ x. cond (ltb (length x) (length (w ++ 34 ∷ more))) (Some (string x)) None) e
    ∙ ap (λ t. cond t (Some (string w)) None) (lt-ltb _ _ h)

first-spelled : (t : Terminal) (more : List ℕ) → Formed t → Stops (goes_with t) more → first (spelling t ++ more) ≡ Some t
first-spelled (identifier w) more f s =
    first_word w more f.0 (stops_first identifying (lone w) more s) (stops_second identifying (lone w) more s) ∙ ap (λ o. Some (worded w o)) f.1
first-spelled (integer []) more f s = absurd f
first-spelled (integer (b ∷ bs)) more f s =
    first-integer b bs more f.0 f.1 ∙ ap (λ x. Some (integer (b ∷ x))) (front-is digit bs more f.1 s)
first-spelled (field []) more f s = absurd f
first-spelled (field (b ∷ w)) more f s = rw f.0 (first_field w more f.1 s)
first-spelled (string w) more f s = ap (λ x. first (34 ∷ x)) (append_assoc w (34 ∷ []) more) ∙ first-string w more f
first-spelled (keyword k) more f s =
    first_word (word k) more (keyword-word k) s (stops-never (lone (word k)) more (λ d. and_left _ (digit d) (small-not-lone (word k) (keyword-small k))))
    ∙ ap (λ o. Some (worded (word k) o)) (keyword-found k)
first-spelled (symbol x) more f s = ap (begun (sign x) more) (kind-of-sign x)

pub first-complete : (bytes : List ℕ) (t : Terminal) (more : List ℕ) → Begins bytes t more → first bytes ≡ Some t
first-complete bytes t more g = ap first g.written ∙ first-spelled t more g.formed g.parted
