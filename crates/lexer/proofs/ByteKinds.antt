-- What the kind of a byte tells of it, and back. Assumes nothing.
use Rattle.std.proofs.Common.{◌≡◌, ℕ, true, false, cond, eqb, refl, arith}
use Rattle.std.proofs.lemmas.Bool.{cond_both, cond-true, eqb-true}
use Rattle.std.proofs.lemmas.Bool.Decides.{nat_tests}
use Rattle.lexer.specs.declared.token.Symbol.{Symbol}
use Rattle.lexer.specs.declared.token.Symbol.TheVariants.{Dot, Comma, Semicolon, OpenParen, CloseParen, Equals, Less}
use Rattle.lexer.specs.declared.byte.ByteKind.{ByteKind}
use Rattle.lexer.specs.declared.byte.ByteKind.TheVariants.{Blank, Identifying, Minus, Digit, At, Quote, Sign, Stray}
use Rattle.lexer.specs.Byte.{blank, digit, identifying, kind_of}
use Rattle.lexer.specs.Token.{sign}

abbrev pub Tells : ℕ → ByteKind → Type 0
Tells b Blank = blank b ≡ true
Tells b Identifying = (identifying b ≡ true) × (eqb b 45 ≡ false)
Tells b Minus = b ≡ 45
Tells b Digit = digit b ≡ true
Tells b At = b ≡ 64
Tells b Quote = b ≡ 34
Tells b (Sign s) = b ≡ sign s
Tells b Stray = Unit {0}

pub kind-tells : (b : ℕ) → Tells b (kind_of b)
kind-tells b =
    cond_both (blank b) _ _ (Tells b) (λ e. e) (λ _.
    cond_both (eqb b 45) _ _ (Tells b) (λ e. eqb-true b 45 e) (λ n.
    cond_both (identifying b) _ _ (Tells b) (λ e. (e, n)) (λ _.
    cond_both (digit b) _ _ (Tells b) (λ e. e) (λ _.
    cond_both (eqb b 64) _ _ (Tells b) (λ e. eqb-true b 64 e) (λ _.
    cond_both (eqb b 34) _ _ (Tells b) (λ e. eqb-true b 34 e) (λ _.
    cond_both (eqb b 46) _ _ (Tells b) (λ e. eqb-true b 46 e) (λ _.
    cond_both (eqb b 44) _ _ (Tells b) (λ e. eqb-true b 44 e) (λ _.
    cond_both (eqb b 59) _ _ (Tells b) (λ e. eqb-true b 59 e) (λ _.
    cond_both (eqb b 40) _ _ (Tells b) (λ e. eqb-true b 40 e) (λ _.
    cond_both (eqb b 41) _ _ (Tells b) (λ e. eqb-true b 41 e) (λ _.
    cond_both (eqb b 61) _ _ (Tells b) (λ e. eqb-true b 61 e) (λ _.
    cond_both (eqb b 60) _ _ (Tells b) (λ e. eqb-true b 60 e) (λ _. tt)))))))))))))

pub kind-of-blank : (b : ℕ) → blank b ≡ true → kind_of b ≡ Blank
kind-of-blank b e = cond-true (blank b) _ _ e

pub identifying-no-digit : (b : ℕ) → identifying b ≡ true → digit b ≡ false
identifying-no-digit b e = grind (arith, nat_tests)

pub kind-of-identifying : (b : ℕ) → identifying b ≡ true → kind_of b ≡ cond (eqb b 45) Minus Identifying
kind-of-identifying b e = grind (arith, nat_tests)

pub kind-of-digit : (b : ℕ) → digit b ≡ true → kind_of b ≡ Digit
kind-of-digit b e = grind (arith, nat_tests)

pub kind-of-sign : (s : Symbol) → kind_of (sign s) ≡ Sign s
kind-of-sign Dot = refl
kind-of-sign Comma = refl
kind-of-sign Semicolon = refl
kind-of-sign OpenParen = refl
kind-of-sign CloseParen = refl
kind-of-sign Equals = refl
kind-of-sign Less = refl
