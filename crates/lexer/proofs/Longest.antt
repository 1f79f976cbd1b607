-- No token could have been longer. Assumes nothing.
use Rattle.std.proofs.Common.{◌≡◌, ℕ, suc, ◌≤◌, Bool, true, false, cond, eqb, List, [], ◌∷◌, ◌++◌, length, get_or, Some, None, Option, sym, refl, ap, ◌∙◌, arith}
use Rattle.std.specs.List.{AllByRecursion}
use Rattle.std.proofs.lemmas.List.{append_assoc}
use Rattle.std.proofs.lemmas.Bool.{eqb-true, false≢true}
use Rattle.std.specs.List.{take_while}
use Rattle.lexer.specs.declared.token.Keyword.{Keyword}
use Rattle.lexer.specs.declared.byte.ByteKind.TheVariants.{Identifying, Minus}
use Rattle.lexer.specs.Byte.{digit, identifying}
use Rattle.lexer.specs.Keyword.{word, keyword_of}
use Rattle.lexer.specs.Token.{Terminal, identifier, integer, field, string, keyword, symbol, spelling, sign}
use Rattle.lexer.specs.Lexing.{named, word_of, integer_of, begun, first}
use Rattle.lexer.specs.Law.{Word, Formed, Begins}
use Rattle.lexer.proofs.ByteKinds.{identifying-no-digit, kind-of-identifying, kind-of-sign}
use Rattle.lexer.proofs.Placing.{length-worded}
use Rattle.lexer.proofs.Runs.{front-at-least}
use Rattle.lexer.proofs.Complete.{keyword-word, first-integer, first-string, first-complete}

abbrev AtLeast : ℕ → Option Terminal → Type 0
AtLeast n None = ⊥
AtLeast n (Some t) = n ≤ length (spelling t)

word-at-least : (b : ℕ) (w other : List ℕ) → AllByRecursion (λ c. identifying c ≡ true) w → suc (length w) ≤ length (spelling (word_of b (w ++ other)))
word-at-least b w other a =
    let n = length-worded (b ∷ take_while identifying (w ++ other)) in
    let m = front-at-least identifying w other a in
    omega arith

-- where a digit follows the `-`, the word was the `-` alone
minus-at-least : (w other : List ℕ) (t : Bool) → digit (get_or (w ++ other) 0 0) ≡ t → AllByRecursion (λ c. identifying c ≡ true) w
    → suc (length w) ≤ length (spelling (cond t (integer_of 45 (w ++ other)) (word_of 45 (w ++ other))))
minus-at-least [] other true d a = omega arith
minus-at-least (c ∷ w) other true d a = absurd (false≢true (sym (identifying-no-digit c a.0) ∙ d))
minus-at-least w other false d a = word-at-least 45 w other a

kind-at-least : (b : ℕ) (w other : List ℕ) (t : Bool) → eqb b 45 ≡ t → AllByRecursion (λ c. identifying c ≡ true) w → AtLeast (suc (length w)) (begun b (w ++ other) (cond t Minus Identifying))
kind-at-least b w other true e a = rw (eqb-true b 45 e) (minus-at-least w other (digit (get_or (w ++ other) 0 0)) refl a)
kind-at-least b w other false e a = word-at-least b w other a

first-at-least : (w other : List ℕ) → Word w → AtLeast (length w) (first (w ++ other))
first-at-least [] other f = absurd (omega arith)
first-at-least (b ∷ w) other f = rw (kind-of-identifying b f.1.0) (kind-at-least b w other (eqb b 45) refl f.1.1)

named-at-least : (w : List ℕ) (o : Option Keyword) (t : Terminal) (n : ℕ) → named w o ≡ Some t → n ≤ length w → suc n ≤ length (spelling t)
named-at-least [] o t n e h = let z : ◌≡◌ {A = ℕ} 0 1 = cc in absurd (omega arith)
named-at-least (b ∷ bs) None t n e h = let t-is : field (64 ∷ (b ∷ bs)) ≡ t = cc in rw (← t-is) (omega arith)
named-at-least (b ∷ bs) (Some k) t n e h = let z : ◌≡◌ {A = ℕ} 0 1 = cc in absurd (omega arith)

at_least : (n : ℕ) (o : Option Terminal) (t : Terminal) → o ≡ Some t → AtLeast n o → n ≤ length (spelling t)
at_least n o t e h = rw e at h

same-token : (o : Option Terminal) (u t : Terminal) → o ≡ Some t → o ≡ Some u → length (spelling u) ≤ length (spelling t)
same-token o u t e f = let t-is : u ≡ t = cc in rw t-is (omega arith)

integer-at-least : (b : ℕ) (bs other : List ℕ) (t : Terminal) → AllByRecursion (λ d. digit d ≡ true) bs → first (b ∷ (bs ++ other)) ≡ Some t
    → first (b ∷ (bs ++ other)) ≡ Some (integer_of b (bs ++ other)) → suc (length bs) ≤ length (spelling t)
integer-at-least b bs other t a e f =
    let t-is : integer_of b (bs ++ other) ≡ t = cc in
    let m = front-at-least digit bs other a in
    rw (← t-is) (omega arith)

covers : (u : Terminal) (other : List ℕ) (t : Terminal) → Formed u → first (spelling u ++ other) ≡ Some t → length (spelling u) ≤ length (spelling t)
covers (identifier w) other t f e = at_least (length w) (first (w ++ other)) t e (first-at-least w other f.0)
covers (integer []) other t f e = absurd f
covers (integer (b ∷ bs)) other t f e = integer-at-least b bs other t f.1 e (first-integer b bs other f.0 f.1)
covers (field []) other t f e = absurd f
covers (field (b ∷ w)) other t f e =
    let at_sign : first (64 ∷ (w ++ other)) ≡ Some t = rw f.0 at e in
    named-at-least (take_while identifying (w ++ other)) (keyword_of (take_while identifying (w ++ other))) t (length w) at_sign (front-at-least identifying w other f.1.0.1)
covers (string w) other t f e =
    same-token (first (34 ∷ (w ++ 34 ∷ other))) (string w) t (ap (λ x. first (34 ∷ x)) (sym (append_assoc w (34 ∷ []) other)) ∙ e) (first-string w other f)
covers (keyword k) other t f e = at_least (length (word k)) (first (word k ++ other)) t e (first-at-least (word k) other (keyword-word k))
covers (symbol x) other t f e = same-token (first (sign x ∷ other)) (symbol x) t e (ap (begun (sign x) other) (kind-of-sign x))

pub longest : (bytes : List ℕ) (t : Terminal) (more : List ℕ) → Begins bytes t more → (u : Terminal) (other : List ℕ) → Formed u → bytes ≡ spelling u ++ other
    → length (spelling u) ≤ length (spelling t)
longest bytes t more g u other f e = covers u other t f (ap first (sym e) ∙ first-complete bytes t more g)
