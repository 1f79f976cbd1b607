-- Trees in a table that grows, and the words that spans have in a memory.
use Rattle.std.proofs.Common.{◌≡◌, ℕ, ◌+◌, ◌-◌, ◌%◌, ◌^◌, ◌<◌, ◌≤◌, ◌≢◌, List, length, get_or, drop, set, sym, refl, ap, ◌∙◌, subst, mod-eq_of_lt, arith}
use Rattle.std.proofs.lemmas.List.{same_lists, get_or-set_same, get_or-set_other, get_or-take, get_or-drop, get_or_default, length-take, length-drop, length-set}
use Rattle.text.specs.declared.span.Space.TheVariants.{Texts}
use Rattle.text.specs.declared.span.Span.{Span}
use Rattle.text.specs.Memory.{Memory, bytes_of}
use Rattle.text.specs.Meanings.{length-bytes_of, get_or-bytes_of}
use Rattle.grammar.specs.Tree.{Expr, Args}
use Rattle.grammar.specs.Measure.{count}
use Rattle.nodes.specs.declared.node.Node.{Node}
use Rattle.stack.specs.declared.Stack.{Stack}
use Rattle.syntax.specs.declared.table.Table.{Table}
use Rattle.syntax.specs.declared.read.Got.{Got}
use Rattle.syntax.specs.declared.read.Size.{Size}
use Rattle.syntax.specs.Sight.{slice}
use Rattle.nodes.specs.Trees.{Lies, span_of, WordAt, at, TreeAt, ArgsAt}
use Rattle.syntax.specs.Sizes.{Remains}
use Rattle.syntax.specs.Parsing.{Kept, Lent, Put}

pub kept-all : (xs : Table Node) → Kept xs xs
kept-all xs = record { below = λ j i. refl; room = refl; lender = refl }

pub kept_then : {xs ys zs : Table Node} → Kept xs ys → Kept ys zs → xs.count ≤ ys.count → Kept xs zs
kept_then a b h = record { below = λ j i. b.below j (omega arith) ∙ a.below j i; room = b.room ∙ a.room; lender = b.lender ∙ a.lender }

pub kept_put : {xs ys : Table Node} {x : Node} {to : ℕ} {size : Size} {g : Got} → Put xs ys x to size g → Kept xs ys
kept_put {xs} {ys} {x} put =
    record {
      below = λ j i. let ne : j ≢ xs.count = omega arith in ap (λ z. at z j) put.items ∙ get_or-set_other xs.items.now xs.count j x _ ne;
      room = ap length put.items ∙ length-set xs.items.now xs.count x;
      lender = put.lender;
    }

-- what stays lent
pub lent-same : (xs : Table Node) (us : Stack Span) → Lent xs xs us us
lent-same xs us = record { lender = refl; long = refl; names = record { lender = refl; room = refl } }

pub lent-names : (xs : Table Node) {us vs : Stack Span} → Remains us vs → Lent xs xs us vs
lent-names xs r = record { lender = refl; long = refl; names = r }

pub lent_put : {xs ys : Table Node} {x : Node} {to : ℕ} {size : Size} {g : Got} (us : Stack Span) → Put xs ys x to size g → Lent xs ys us us
lent_put us put = let k = kept_put put in record { lender = k.lender; long = k.room; names = record { lender = refl; room = refl } }

pub lent_then : {xs ys zs : Table Node} {us vs ws : Stack Span} → Lent xs ys us vs → Lent ys zs vs ws → Lent xs zs us ws
lent_then a b = record {
  lender = b.lender ∙ a.lender;
  long = b.long ∙ a.long;
  names = let n = a.names in let m = b.names in record { lender = m.lender ∙ n.lender; room = m.room ∙ n.room };
}

pub put-at : {xs ys : Table Node} {x : Node} {to : ℕ} {size : Size} {g : Got} → Put xs ys x to size g → xs.count < length xs.items.now → at ys.items.now xs.count ≡ x
put-at {xs} {ys} {x} put h = ap (λ z. at z xs.count) put.items ∙ get_or-set_same xs.items.now xs.count x _ h

module _ (m : Memory) (xs ys : List Node) where
  mutual
    tree-same : (e : Expr ℕ) (i : ℕ) → ((j : ℕ) → j ≤ i → at ys j ≡ at xs j) → TreeAt m xs i e → TreeAt m ys i e
    tree-same (Expr.int p w) i h t = (t.0, h i (omega arith) ∙ t.1, t.2)
    tree-same (Expr.nil p) i h t = h i (omega arith) ∙ t
    tree-same (Expr.self p) i h t = h i (omega arith) ∙ t
    tree-same (Expr.string p w) i h t = (t.0, h i (omega arith) ∙ t.1, t.2)
    tree-same (Expr.local p x) i h t = (t.0, h i (omega arith) ∙ t.1, t.2)
    tree-same (Expr.set_local p x e) i h t =
        let b = t.4 in (t.0, t.1, h i (omega arith) ∙ t.2, t.3, b, tree-same e t.1 (λ j q. h j (omega arith)) t.5)
    tree-same (Expr.field p x) i h t = (t.0, h i (omega arith) ∙ t.1, t.2)
    tree-same (Expr.set_field p x e) i h t =
        let b = t.4 in (t.0, t.1, h i (omega arith) ∙ t.2, t.3, b, tree-same e t.1 (λ j q. h j (omega arith)) t.5)
    tree-same (Expr.if_then_else p a b c) i h t =
        let u = t.4 in let v = t.6 in let w = t.8 in (
          t.0,
          t.1,
          t.2,
          h i (omega arith) ∙ t.3,
          u,
          tree-same a t.0 (λ j q. h j (omega arith)) t.5,
          v,
          tree-same b t.1 (λ j q. h j (omega arith)) t.7,
          w,
          tree-same c t.2 (λ j q. h j (omega arith)) t.9,
        )
    tree-same (Expr.while_do p a b) i h t =
        let u = t.3 in let v = t.5 in
        (t.0, t.1, h i (omega arith) ∙ t.2, u, tree-same a t.0 (λ j q. h j (omega arith)) t.4, v, tree-same b t.1 (λ j q. h j (omega arith)) t.6)
    tree-same (Expr.seq p a b) i h t =
        let u = t.3 in let v = t.5 in
        (t.0, t.1, h i (omega arith) ∙ t.2, u, tree-same a t.0 (λ j q. h j (omega arith)) t.4, v, tree-same b t.1 (λ j q. h j (omega arith)) t.6)
    tree-same (Expr.new p x es) i h t =
        (t.0, t.1, h i (omega arith) ∙ t.2, t.3, t.4, args-same es i t.1.roots (λ j q. h j (omega arith)) t.5)
    tree-same (Expr.instance_of p e x) i h t =
        let b = t.4 in (t.0, t.1, h i (omega arith) ∙ t.2, t.3, b, tree-same e t.0 (λ j q. h j (omega arith)) t.5)
    tree-same (Expr.invoke p e x es) i h t =
        let b = t.5 in
        (t.0, t.1, t.2, h i (omega arith) ∙ t.3, t.4, b, tree-same e t.0 (λ j q. h j (omega arith)) t.6, t.7, args-same es i t.2.roots (λ j q. h j (omega arith)) t.8)

    args-same : (es : Args ℕ) (i : ℕ) (roots : List ℕ) → ((j : ℕ) → j < i → at ys j ≡ at xs j) → ArgsAt m xs i roots es → ArgsAt m ys i roots es
    args-same Args.none i roots h t = tt
    args-same (Args.more es e) i roots h t = (
      args-same es i roots h t.0,
      λ k. let b = (t.1 k).0 in (b, tree-same e (get_or roots (count es) 0) (λ j q. h j (omega arith)) (t.1 k).1),
    )

pub tree-kept : {xs ys : Table Node} (m : Memory) (e : Expr ℕ) (i : ℕ) → Kept xs ys → i < xs.count → TreeAt m xs.items.now i e → TreeAt m ys.items.now i e
tree-kept {xs} {ys} m e i k h t = tree-same m xs.items.now ys.items.now e i (λ j q. k.below j (omega arith)) t

pub args-kept : {xs ys : Table Node} (m : Memory) (es : Args ℕ) (i : ℕ) (roots : List ℕ) → Kept xs ys → i ≤ xs.count → ArgsAt m xs.items.now i roots es → ArgsAt m ys.items.now i roots es
args-kept {xs} {ys} m es i roots k h t = args-same m xs.items.now ys.items.now es i roots (λ j q. k.below j (omega arith)) t

-- what stands below i stands below more
pub args-below : (m : Memory) (xs : List Node) (es : Args ℕ) (i l : ℕ) (roots : List ℕ) → i ≤ l → ArgsAt m xs i roots es → ArgsAt m xs l roots es
args-below m xs Args.none i l roots h t = tt
args-below m xs (Args.more es e) i l roots h t = (args-below m xs es i l roots h t.0, λ k. let b = (t.1 k).0 in (omega arith, (t.1 k).1))

-- a root behind those of the arguments changes none of them
pub args-set : (m : Memory) (xs : List Node) (es : Args ℕ) (i : ℕ) (roots : List ℕ) (k r : ℕ) → count es ≤ k → ArgsAt m xs i roots es → ArgsAt m xs i (set roots k r) es
args-set m xs Args.none i roots k r h t = tt
args-set m xs (Args.more es e) i roots k r h t = (
  args-set m xs es i roots k r (omega arith) t.0,
  λ q.
      let same : get_or roots (count es) 0 ≡ get_or (set roots k r) (count es) 0 = sym (get_or-set_other roots k (count es) r 0 (omega arith)) in
      subst (λ z. (z < i) × TreeAt m xs z e) same (t.1 q),
)

-- the span of a part of a text that stands in the memory from `base` on
module _ (m : Memory) (text : List ℕ) (base from to : ℕ) (low : base + from < 2 ^ 16) (same : (i : ℕ) → i < length text → get_or m.texts (base + i) 0 ≡ get_or text i 0) (h : from ≤ to) (g : to ≤ length text) where
  spanned : Span
  spanned = record { space = Texts; start = (base + from) % 2 ^ 16; len = to - from }

  start_is : (base + from) % 2 ^ 16 ≡ base + from
  start_is = mod-eq_of_lt low

  pub word-from : WordAt m (record { space = Texts; start = (base + from) % 2 ^ 16; len = to - from }) (slice text from to)
  unfolding spanned
  word-from = (
    refl,
    same_lists (bytes_of m spanned) (slice text from to) (length-bytes_of m spanned ∙ sym (simp (length-take, length-drop) (omega arith)))
        (λ k d q.
        let lt : k < to - from = omega (arith, length-bytes_of m spanned) in
        let e : (base + from) % 2 ^ 16 + k ≡ base + (from + k) = let s = start_is in omega arith in
        get_or-bytes_of m spanned k d lt ∙ ap (λ z. get_or m.texts z 0) e ∙ same (from + k) (omega arith)
        ∙ sym (get_or-take (to - from) (drop from text) k d lt ∙ get_or-drop from text k d ∙ get_or_default text (from + k) d 0 (omega arith))),
  )

-- the span of a part of a text that lies in the memory
pub word_at : (m : Memory) (text : List ℕ) (base from to : ℕ) → Lies m text base → from ≤ to → to ≤ length text → WordAt m (span_of base from to) (slice text from to)
word_at m text base from to lies h g = let r = lies.reached in word-from m text base from to (omega arith) lies.same h g
