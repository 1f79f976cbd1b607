-- Bytes laid over others, and what a span of them means.
use Rattle.std.proofs.Common.{◌≡◌, ℕ, ◌+◌, ◌-◌, ◌<◌, ◌≤◌, List, ◌++◌, length, get_or, take, drop, sym, refl, ap, ◌∙◌, arith, rules}
use borrow.Rule.Slice.PartMut.{put_mid, post_of}
use Rattle.std.proofs.lemmas.List.{same_lists, places, append_assoc, drop-drop, take_at, length-append, length-take-le, get_or_default, get_or-take}
use Rattle.text.specs.declared.span.Span.{Span}
use Rattle.text.specs.declared.span.Space.TheVariants.{Made}
use Rattle.text.specs.Memory.{Memory, bytes_of}
use Rattle.text.specs.Agree.{Grown, made_end}
use Rattle.text.specs.Meanings.{length-bytes_of, get_or-bytes_of, bytes_of-grown}
use Rattle.effects.specs.Laid.{laid}

pub laid-at-once : (xs ys : List ℕ) (at n : ℕ) → n ≡ length ys → put_mid at n xs ys ≡ laid xs at ys
laid-at-once xs ys at n e =
    ap (λ (z : List ℕ). take at xs ++ (ys ++ z)) (drop-drop n at xs ∙ ap (λ k. drop (at + k) xs) e)

-- what stands up to the end of what was laid
pub take-laid : (xs ys : List ℕ) (at : ℕ) → at + length ys ≤ length xs → take (at + length ys) (laid xs at ys) ≡ take at xs ++ ys
take-laid xs ys at h =
    ap (take (at + length ys)) (sym (append_assoc (take at xs) ys (drop (at + length ys) xs)))
    ∙ take_at (take at xs ++ ys) (drop (at + length ys) xs) (at + length ys) (length-append (take at xs) ys ∙ ap (λ n. n + length ys) (length-take-le at xs (omega arith)))

pub length-laid : (xs ys : List ℕ) (at : ℕ) → at + length ys ≤ length xs → length (laid xs at ys) ≡ length xs
length-laid xs ys at h = search (rules, places)

-- bytes below the place stay
pub laid-grown : (m : Memory) (at : ℕ) (ys : List ℕ) → at + length ys ≤ length m.made → Grown at m (record { fixed = m.fixed; texts = m.texts; made = laid m.made at ys })
laid-grown m at ys h = (refl, refl, λ i l. grind (arith, places))

laid-at : (xs ys : List ℕ) (at k d : ℕ) → k < length ys → at + length ys ≤ length xs → get_or (laid xs at ys) (at + k) 0 ≡ get_or ys k d
laid-at xs ys at k d h l = grind (arith, places, get_or_default)

-- what was laid is what a span there means
pub laid-means : (m : Memory) (at n : ℕ) (ys : List ℕ) → n ≡ length ys → at + n ≤ length m.made → bytes_of (record { fixed = m.fixed; texts = m.texts; made = laid m.made at ys }) (record { space = Made; start = at; len = n }) ≡ ys
laid-means m at n ys e h =
    let after : Memory = record { fixed = m.fixed; texts = m.texts; made = laid m.made at ys } in
    let t : Span = record { space = Made; start = at; len = n } in
    same_lists _ _ (length-bytes_of after t ∙ e)
    (λ k d l.
    let b : k < n = omega (arith, length-bytes_of after t) in
    get_or-bytes_of after t k d b ∙ laid-at m.made ys at k d (omega arith) (omega arith))

-- a string that ends by u needs no more than the first u bytes made
pub front-means : (m : Memory) (u : ℕ) (s : Span) → made_end s ≤ u → bytes_of (record { fixed = m.fixed; texts = m.texts; made = take u m.made }) s ≡ bytes_of m s
front-means m u s h =
    bytes_of-grown u (record { fixed = m.fixed; texts = m.texts; made = take u m.made }) m s (refl, refl, λ i l. get_or-take u m.made i 0 l) h

-- two strings written one behind the other into what stands from u on
pub both-laid : (xs made room one two : List ℕ) (u a b : ℕ) → made ≡ take u xs → room ≡ drop u xs → length one ≡ a → length two ≡ b → u + (a + b) ≤ length xs → made ++ (take a (one ++ drop a room) ++ (two ++ post_of a (a + b - a) (one ++ drop a room))) ≡ laid xs u (one ++ two)
both-laid xs made room one two u a b em er ea eb h =
    rw (em, er) (same_lists _ _ (search (rules, places)) (λ k d l. grind (arith, places)))

-- what a concatenation leaves, where both strings are read from the bytes before u
pub concat-laid : (m : Memory) (a b : Span) (xs made room one two : List ℕ) (u s j k : ℕ) → s ≡ u → j ≡ a.len → k ≡ b.len → xs ≡ m.made → made ≡ take s xs → room ≡ drop s xs → one ≡ bytes_of (record { fixed = m.fixed; texts = m.texts; made = made }) a → two ≡ bytes_of (record { fixed = m.fixed; texts = m.texts; made = made }) b → made_end a ≤ u → made_end b ≤ u → u + (a.len + b.len) ≤ length m.made → made ++ (take j (one ++ drop j room) ++ (two ++ post_of j (j + k - j) (one ++ drop j room))) ≡ laid m.made u (bytes_of m a ++ bytes_of m b)
concat-laid m a b xs made room one two u s j k es ej ek ex em er ea eb ha hb h =
    let x : one ≡ bytes_of m a = rw (ea, em, es, ex) (front-means m u a ha) in
    let y : two ≡ bytes_of m b = rw (eb, em, es, ex) (front-means m u b hb) in
    let am = rw (es, ex) at em in
    let ar = rw (es, ex) at er in
    both-laid m.made made room one two u j k am ar (ap length x ∙ length-bytes_of m a ∙ sym ej) (ap length y ∙ length-bytes_of m b ∙ sym ek) (omega arith)
    ∙ (λ i. laid m.made u (x i ++ y i))
