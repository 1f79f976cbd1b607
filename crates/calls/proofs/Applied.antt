-- What the machine's own functions leave, as their definitions say.
use Rattle.std.proofs.Common.{◌≡◌, ℕ, ◌+◌, ◌≤◌, Bool, true, false, ◌&&◌, ltb, leb, List, ◌++◌, length, ℤ, pos, Ok, Err, sym, refl, ap, ◌∙◌, subst, arith}
use Rattle.std.proofs.lemmas.Bool.{leb-true}
use Rattle.std.specs.Fmt.{signed_decimal}
use Rattle.text.specs.declared.span.Span.{Span}
use Rattle.text.specs.Meanings.{grown-none}
use Rattle.store.specs.declared.value.Value.{Value}
use Rattle.store.specs.declared.value.Value.TheVariants.{Int, Str}
use Rattle.store.specs.Val.{Val}
use Rattle.machine.specs.declared.builtin.Builtin.TheVariants.{PrintValue, ToS, Concat, Length}
use Rattle.machine.specs.declared.ending.Ending.{Ending}
use Rattle.machine.specs.declared.ending.Ending.TheVariants.{NoTextSpace, NoOutputSpace}
use Rattle.machine.specs.Limits.{most_strings, most_string_bytes}
use Rattle.machine.specs.Outcome.{Outcome, ◌>>=◌, unless}
use Rattle.machine.specs.Effects.{Effects, charged, printed, charge, print}
use Rattle.machine.specs.Builtin.{integer_in, string_in, shown, one, two, make, apply}
use Rattle.machine.specs.State.{Registers}
use Rattle.effects.specs.declared.literals.Literals.{Literals}
use Rattle.effects.specs.declared.strings.Strings.{Strings}
use Rattle.effects.specs.declared.output.Output.{Output}
use Rattle.effects.specs.declared.spent.Spent.{Spent}
use Rattle.effects.specs.Spending.{memory_with, effects_with, effects_of, Makes}
use Rattle.effects.specs.Laid.{laid}
use Rattle.text.specs.Memory.{bytes_of}
use Rattle.text.specs.Agree.{Grown}
use Rattle.effects.proofs.Laying.{laid-grown, laid-means}
use Rattle.calls.specs.Applying.{arguments_at, only_at, both_at, memory_in, Shows, Spells, Answers, apply_at}

-- what passes a test passes it, and goes on
passes : {A : Type 0} (e : Ending) (b : Bool) (x : Outcome A) (y : A) → unless e b x ≡ Ok y → (b ≡ true) × (x ≡ Ok y)
passes e true x y h = (refl, h)
passes e false x y h = let z : ◌≡◌ {A = ℕ} 0 1 = cc in absurd (omega arith)

and_right : (a b : Bool) → (a && b) ≡ true → b ≡ true
and_right true b h = h
and_right false b h = let z : ◌≡◌ {A = ℕ} 0 1 = cc in absurd (omega arith)

-- a charge that was made fits, and adds its bytes
module _ (n : ℕ) (o r : Effects) (h : charge n o ≡ Ok r) where
  charge-passes : ((ltb o.strings most_strings && leb (o.bytes + n) most_string_bytes) ≡ true) × (◌≡◌ {A = Outcome Effects} (Ok (charged n o)) (Ok r))
  unfolding charge
  charge-passes = passes NoTextSpace (ltb o.strings most_strings && leb (o.bytes + n) most_string_bytes) _ _ h

  charge-fits : o.bytes + n ≤ most_string_bytes
  charge-fits = leb-true _ _ (and_right (ltb o.strings most_strings) (leb (o.bytes + n) most_string_bytes) charge-passes.0)

  charge-adds : r.bytes ≡ o.bytes + n
  charge-adds = let e : charged n o ≡ r = (let f = charge-passes.1 in cc) in sym (ap (λ (z : Effects). z.bytes) e)

-- a print charges nothing
print-keeps : (s : List ℕ) (o r : Effects) → print s o ≡ Ok r → r.bytes ≡ o.bytes
unfolding print
print-keeps s o r h =
    let p = (passes NoOutputSpace (leb (length s) o.left) _ _ h).1 in
    let e : printed s o ≡ r = cc in
    sym (ap (λ (z : Effects). z.bytes) e)

-- a new string, or nothing
pub makes-applied : (l : Literals) (s : List ℕ) (p : Spent) (q : Strings) (t : Span) → most_string_bytes ≤ length p.strings.bytes.now → Makes s p.strings (Ok t) q → Answers l (make s (effects_of p)) (Str t) p (record { strings = q; output = p.output })
makes-applied l s p q t room h =
    let c = h.0 p.output in
    let fits = charge-fits (length s) (effects_of p) (effects_with q p.output) c in
    let adds = charge-adds (length s) (effects_of p) (effects_with q p.output) c in
    let after : memory_with l q.bytes.now ≡ memory_with l (laid p.strings.bytes.now p.strings.used s) = ap (memory_with l) h.2 in
    let means : bytes_of (memory_with l q.bytes.now) t ≡ s = (λ i. bytes_of (after i) (h.1 i)) ∙ laid-means (memory_in l p) p.strings.used (length s) s refl (omega arith) in
    record {
      answer = rw c (ap (λ (x : List ℕ). Ok (Val.string x, effects_with q p.output)) (sym means));
      grown = subst (Grown p.strings.used (memory_in l p)) (sym after) (laid-grown (memory_in l p) p.strings.used s (omega arith));
      more = omega arith;
      ends = rw h.1 (omega arith);
    }

pub makes-refused : (s : List ℕ) (p : Spent) (q : Strings) (e : Ending) → Makes s p.strings (Err e) q → (make s (effects_of p) ≡ Err e) × (◌≡◌ {A = Spent} (record { strings = q; output = p.output }) p)
makes-refused s p q e h = (rw (h.0 p.output), (λ i. record { strings = h.1 i; output = p.output }))

-- what follows the arguments of each function
abbrev printing : Effects → Val → Outcome (Val × Effects)
printing o v = shown v >>= (λ s. print s o) >>= (λ p. Ok (Val.int (pos 0), p))

abbrev spelling : Effects → Val → Outcome (Val × Effects)
spelling o v = integer_in v >>= (λ n. make (signed_decimal n) o)

abbrev joining : Effects → Val × Val → Outcome (Val × Effects)
joining o p = string_in p.0 >>= (λ s. string_in p.1 >>= (λ t. make (s ++ t) o))

abbrev measuring : Effects → Val → Outcome (Val × Effects)
measuring o v = string_in v >>= (λ s. Ok (Val.int (pos (length s)), o))

module _ (R : Registers) (a b : ℕ) (o : Effects) where
  apply-print : apply_at PrintValue R a b o ≡ only_at R a b >>= printing o
  unfolding apply
  apply-print = by (arguments_at R a b) where
    then : (y : Outcome Val) → ◌≡◌ {A = Outcome (Val × Effects)} (y >>= shown >>= (λ s. print s o) >>= (λ p. Ok (Val.int (pos 0), p))) (y >>= printing o)
    then (Ok v) = refl
    then (Err e) = refl

    by : (x : Outcome (List Val)) → (x >>= (λ vs. apply PrintValue vs o)) ≡ x >>= one >>= printing o
    by (Err e) = refl
    by (Ok vs) = then (one vs)

  apply-to-s : apply_at ToS R a b o ≡ only_at R a b >>= spelling o
  unfolding apply
  apply-to-s = by (arguments_at R a b) where
    then : (y : Outcome Val) → (y >>= integer_in >>= (λ n. make (signed_decimal n) o)) ≡ y >>= spelling o
    then (Ok v) = refl
    then (Err e) = refl

    by : (x : Outcome (List Val)) → (x >>= (λ vs. apply ToS vs o)) ≡ x >>= one >>= spelling o
    by (Err e) = refl
    by (Ok vs) = then (one vs)

  apply-concat : apply_at Concat R a b o ≡ both_at R a b >>= joining o
  unfolding apply
  apply-concat = by (arguments_at R a b) where
    by : (x : Outcome (List Val)) → (x >>= (λ vs. apply Concat vs o)) ≡ x >>= two >>= joining o
    by (Err e) = refl
    by (Ok vs) = refl

  apply-length : apply_at Length R a b o ≡ only_at R a b >>= measuring o
  unfolding apply
  apply-length = by (arguments_at R a b) where
    then : (y : Outcome Val) → ◌≡◌ {A = Outcome (Val × Effects)} (y >>= string_in >>= (λ s. Ok (Val.int (pos (length s)), o))) (y >>= measuring o)
    then (Ok v) = refl
    then (Err e) = refl

    by : (x : Outcome (List Val)) → (x >>= (λ vs. apply Length vs o)) ≡ x >>= one >>= measuring o
    by (Err e) = refl
    by (Ok vs) = then (one vs)

  -- without its argument a function does nothing
  module _ (e : Ending) (h : Err e ≡ only_at R a b) where
    pub print-without : apply_at PrintValue R a b o ≡ Err e
    print-without = apply-print ∙ ap (λ (z : Outcome Val). z >>= printing o) (sym h)

    pub to-s-without : apply_at ToS R a b o ≡ Err e
    to-s-without = apply-to-s ∙ ap (λ (z : Outcome Val). z >>= spelling o) (sym h)

    pub length_without : apply_at Length R a b o ≡ Err e
    length_without = apply-length ∙ ap (λ (z : Outcome Val). z >>= measuring o) (sym h)

  pub concat-without : (e : Ending) → Err e ≡ both_at R a b → apply_at Concat R a b o ≡ Err e
  concat-without e h = apply-concat ∙ ap (λ (z : Outcome (Val × Val)). z >>= joining o) (sym h)

  -- with it, it goes on
  module _ (v : Val) (h : Ok v ≡ only_at R a b) where
    pub print-with : apply_at PrintValue R a b o ≡ printing o v
    print-with = apply-print ∙ ap (λ (z : Outcome Val). z >>= printing o) (sym h)

    pub print-refused : (e : Ending) → (shown v >>= (λ s. print s o)) ≡ Err e → apply_at PrintValue R a b o ≡ Err e
    print-refused e f = print-with ∙ ap (λ (z : Outcome Effects). z >>= (λ p. Ok (Val.int (pos 0), p))) f

    pub to-s-with : apply_at ToS R a b o ≡ spelling o v
    to-s-with = apply-to-s ∙ ap (λ (z : Outcome Val). z >>= spelling o) (sym h)

    pub length-other : (e : Ending) → Err e ≡ string_in v → apply_at Length R a b o ≡ Err e
    length-other e f = apply-length ∙ ap (λ (z : Outcome Val). z >>= measuring o) (sym h) ∙ ap (λ (z : Outcome (List ℕ)). z >>= (λ s. Ok (Val.int (pos (length s)), o))) (sym f)

    pub length-of : (s : List ℕ) → Ok s ≡ string_in v → apply_at Length R a b o ≡ Ok (Val.int (pos (length s)), o)
    length-of s f = apply-length ∙ ap (λ (z : Outcome Val). z >>= measuring o) (sym h) ∙ ap (λ (z : Outcome (List ℕ)). z >>= (λ s. Ok (Val.int (pos (length s)), o))) (sym f)

  module _ (v w : Val) (h : Ok (v, w) ≡ both_at R a b) where
    concat-with : apply_at Concat R a b o ≡ joining o (v, w)
    concat-with = apply-concat ∙ ap (λ (z : Outcome (Val × Val)). z >>= joining o) (sym h)

    pub concat-first : (e : Ending) → Err e ≡ string_in v → apply_at Concat R a b o ≡ Err e
    concat-first e f = concat-with ∙ ap (λ (z : Outcome (List ℕ)). z >>= (λ s. string_in w >>= (λ t. make (s ++ t) o))) (sym f)

    module _ (s : List ℕ) (f : Ok s ≡ string_in v) where
      pub concat-second : (e : Ending) → Err e ≡ string_in w → apply_at Concat R a b o ≡ Err e
      concat-second e k = concat-with ∙ ap (λ (z : Outcome (List ℕ)). z >>= (λ s. string_in w >>= (λ t. make (s ++ t) o))) (sym f) ∙ ap (λ (z : Outcome (List ℕ)). z >>= (λ t. make (s ++ t) o)) (sym k)

      pub concat-of : (t : List ℕ) → Ok t ≡ string_in w → apply_at Concat R a b o ≡ make (s ++ t) o
      concat-of t k = concat-with ∙ ap (λ (z : Outcome (List ℕ)). z >>= (λ s. string_in w >>= (λ t. make (s ++ t) o))) (sym f) ∙ ap (λ (z : Outcome (List ℕ)). z >>= (λ t. make (s ++ t) o)) (sym k)

-- what was shown is what the print leaves
pub print-applied : (l : Literals) (R : Registers) (a b : ℕ) (v : Val) (p : Spent) (q : Output) → Ok v ≡ only_at R a b → Shows (shown v) p.output (Ok tt) q → Answers l (apply_at PrintValue R a b (effects_of p)) (Int (pos 0)) p (record { strings = p.strings; output = q })
print-applied l R a b v p q h w =
    record {
      answer = print-with R a b (effects_of p) v h ∙ ap (λ (z : Outcome Effects). z >>= (λ p. Ok (Val.int (pos 0), p))) (w p.strings);
      grown = grown-none p.strings.used (memory_in l p);
      more = omega arith;
      ends = omega arith;
    }

-- the string of an integer
pub spells-refused : (x : Outcome ℤ) (p : Spent) (q : Strings) (e : Ending) → Spells x p.strings (Err e) q → ((x >>= (λ n. make (signed_decimal n) (effects_of p))) ≡ Err e) × (◌≡◌ {A = Spent} (record { strings = q; output = p.output }) p)
spells-refused (Ok n) p q e h = (ap (λ (z : Outcome Effects). z >>= (λ r. Ok (Val.string (signed_decimal n), r))) (h.0 p.output), (λ i. record { strings = h.1 i; output = p.output }))
spells-refused (Err f) p q e h = let k = h.0 in let g : f ≡ e = cc in (ap Err g, (λ i. record { strings = h.1 i; output = p.output }))

pub spells-applied : (l : Literals) (x : Outcome ℤ) (p : Spent) (q : Strings) (t : Span) → most_string_bytes ≤ length p.strings.bytes.now → Spells x p.strings (Ok t) q → Answers l (x >>= (λ n. make (signed_decimal n) (effects_of p))) (Str t) p (record { strings = q; output = p.output })
spells-applied l (Ok n) p q t room h = makes-applied l (signed_decimal n) p q t room h
spells-applied l (Err g) p q t room h = let k = h.0 in let z : ◌≡◌ {A = ℕ} 0 1 = cc in absurd (omega arith)

-- an answer by another name
pub answers-as : (l : Literals) (x y : Outcome (Val × Effects)) (v : Value) (p q : Spent) → x ≡ y → Answers l y v p q → Answers l x v p q
answers-as l x y v p q e h = record { answer = e ∙ h.answer; grown = h.grown; more = h.more; ends = h.ends }
