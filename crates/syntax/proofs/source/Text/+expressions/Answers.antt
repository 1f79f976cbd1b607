use Rattle.std.proofs.Common.{◌≡◌, ℕ, refl, ap, ◌∙◌, arith}
use Rattle.std.proofs.lemmas.Result.{MatchResult-weaker, IfOk-weaker}
use Rattle.grammar.specs.Tree.{Expr}
use Rattle.syntax.specs.declared.sight.Sort.TheVariants as sort
use Rattle.syntax.specs.Sizes.{around, side_by_side}
use Rattle.syntax.proofs.Reading.{handed, lower, never, shown-as}
use Rattle.syntax.proofs.Nodes.{lent-same, lent-names, lent_put, lent_then}
use Rattle.syntax.proofs.Sizes.{plain-sized}
use Rattle.syntax.proofs.Moving.{earlier, leaf-moves, seq-moves, set-moves, while-moves, if-moves, new-moves, test-moves, call-moves, none_moves, first-moves, next-moves, close-moves}
use Rattle.syntax.proofs.Forms.{alternative-lost, args-made, call-args-lost, call-made, call-open-lost, class-lost, close-lost, condition-lost, consequent-lost, do-lost, else-lost, end-lost, first-lost, first_made, guard-lost, idle-sign, idle-word, if-end-lost, if-made, item-test, leaf-made, loop-lost, method-lost, new-args-lost, new-made, new-open-lost, next-lost, next-made, none_made, seq-item, seq-lost, seq-made, set-lost, set-made, test-class-lost, test-made, then-lost, token-lost, while-end-lost, while-made}
use Rattle.syntax.proofs.source.Text.+expressions.Goals as goal

-- sequence

pub sequence-returns-in_err-a : goal.sequence-returns-in_err-a
sequence-returns-in_err-a t c =
    rw (handed c.from_residual.result c.from_residual.ensures.1) (record { moves = tt; reads = lower 4 (omega arith) c.in_err-a.ensures.reads; lent = c.in_err-a.ensures.lent })

pub sequence-returns-in_err-b-in-Some : goal.sequence-returns-in_err-b-in-Some
sequence-returns-in_err-b-in-Some t c =
    rw (handed c.from_residual-in_err-b-in-Some.result c.from_residual-in_err-b-in-Some.ensures.1) (record { moves = tt; reads = seq-lost c.in_ok-a.ensures.reads (record { is = c.in-Some.ensures.found.1 }) c.in_err-b-in-Some.ensures.reads; lent = lent_then c.in_ok-a.ensures.lent c.in_err-b-in-Some.ensures.lent })

pub sequence-returns-in_ok-b-in-Some : goal.sequence-returns-in_ok-b-in-Some
sequence-returns-in_ok-b-in-Some t c =
    let ma = c.in_ok-a.ensures.moves in
    let mb = c.in_ok-b-in-Some.ensures.moves in
    let i = c.in-Some.ensures.inside in
    let put = c.put.ensures.put in
    record {
      moves = seq-moves ma i mb put;
      reads = seq-made c.in_ok-a.ensures.reads (record { is = c.in-Some.ensures.found.1 }) c.in_ok-b-in-Some.ensures.reads put ma mb c.beside.ensures;
      lent = lent_then c.in_ok-a.ensures.lent (lent_then c.in_ok-b-in-Some.ensures.lent (lent_put _ put));
    }

pub sequence-returns-in-None : goal.sequence-returns-in-None
sequence-returns-in-None t c =
    record { moves = c.in_ok-a.ensures.moves; reads = seq-item c.in_ok-a.ensures.reads c.in-None.ensures.found; lent = c.in_ok-a.ensures.lent }

-- item

pub item-returns-in_err-e-in-Some : goal.item-returns-in_err-e-in-Some
item-returns-in_err-e-in-Some t c =
    rw (handed c.from_residual.result c.from_residual.ensures.1) (record { moves = tt; reads = set-lost c.in-Some.ensures.found c.in_err-e-in-Some.ensures.reads; lent = lent_then (lent-names _ c.learn_target.ensures.lent) c.in_err-e-in-Some.ensures.lent })

pub item-returns-in_ok-e-in-Some : goal.item-returns-in_ok-e-in-Some
item-returns-in_ok-e-in-Some t c =
    let me = c.in_ok-e-in-Some.ensures.moves in
    let i = c.in-Some.ensures.inside in
    let put = c.put.ensures.put in
    record {
      moves = set-moves i me put;
      reads = set-made c.in-Some.ensures.found c.in_ok-e-in-Some.ensures.reads put c.written.ensures.by_its_target me (omega arith) (omega arith) c.deeper.ensures (c.learn_target.ensures.named_by_it (omega arith));
      lent = lent_then (lent-names _ c.learn_target.ensures.lent) (lent_then c.in_ok-e-in-Some.ensures.lent (lent_put _ put));
    }

pub item-returns-in-None : goal.item-returns-in-None
item-returns-in-None t c =
    record { moves = c.test.ensures.moves; reads = MatchResult-weaker c.test.result c.test.ensures.reads (λ g w. item-test w c.in-None.ensures.found) (λ s r. lower 3 (omega arith) r); lent = c.test.ensures.lent }

-- conditional

pub conditional-returns-in_err-a : goal.conditional-returns-in_err-a
conditional-returns-in_err-a t c =
    rw (handed c.from_residual.result c.from_residual.ensures.1) (record { moves = tt; reads = λ q b. condition-lost (record { is = b }) c.in_err-a.ensures.reads; lent = c.in_err-a.ensures.lent })

pub conditional-returns-in_err-to : goal.conditional-returns-in_err-to
conditional-returns-in_err-to t c =
    rw (handed c.from_residual-in_err-to.result c.from_residual-in_err-to.ensures.1) (record { moves = tt; reads = λ q b. then-lost (record { is = b }) c.in_ok-a.ensures.reads c.in_err-to.ensures.found; lent = c.in_ok-a.ensures.lent })

pub conditional-returns-in_err-b : goal.conditional-returns-in_err-b
conditional-returns-in_err-b t c =
    rw (handed c.from_residual-in_err-b.result c.from_residual-in_err-b.ensures.1) (record { moves = tt; reads = λ q b. consequent-lost (record { is = b }) c.in_ok-a.ensures.reads (record { is = c.in_ok-to.ensures.found.1 }) c.in_err-b.ensures.reads; lent = lent_then c.in_ok-a.ensures.lent c.in_err-b.ensures.lent })

pub conditional-returns-in_err-to-2 : goal.conditional-returns-in_err-to-2
conditional-returns-in_err-to-2 t c =
    rw (handed c.from_residual-in_err-to-2.result c.from_residual-in_err-to-2.ensures.1) (record { moves = tt; reads = λ q b. else-lost (record { is = b }) c.in_ok-a.ensures.reads (record { is = c.in_ok-to.ensures.found.1 }) c.in_ok-b.ensures.reads c.in_err-to-2.ensures.found; lent = lent_then c.in_ok-a.ensures.lent c.in_ok-b.ensures.lent })

pub conditional-returns-in_err-c : goal.conditional-returns-in_err-c
conditional-returns-in_err-c t c =
    rw (handed c.from_residual-in_err-c.result c.from_residual-in_err-c.ensures.1) (record { moves = tt; reads = λ q b. alternative-lost (record { is = b }) c.in_ok-a.ensures.reads (record { is = c.in_ok-to.ensures.found.1 }) c.in_ok-b.ensures.reads (record { is = c.in_ok-to-2.ensures.found.1 }) c.in_err-c.ensures.reads; lent = lent_then c.in_ok-a.ensures.lent (lent_then c.in_ok-b.ensures.lent c.in_err-c.ensures.lent) })

pub conditional-returns-in_err-to-3 : goal.conditional-returns-in_err-to-3
conditional-returns-in_err-to-3 t c =
    rw (handed c.from_residual-in_err-to-3.result c.from_residual-in_err-to-3.ensures.1) (record { moves = tt; reads = λ q b. if-end-lost (record { is = b }) c.in_ok-a.ensures.reads (record { is = c.in_ok-to.ensures.found.1 }) c.in_ok-b.ensures.reads (record { is = c.in_ok-to-2.ensures.found.1 }) c.in_ok-c.ensures.reads c.in_err-to-3.ensures.found; lent = lent_then c.in_ok-a.ensures.lent (lent_then c.in_ok-b.ensures.lent c.in_ok-c.ensures.lent) })

pub conditional-returns : goal.conditional-returns
conditional-returns t c =
    let ma = c.in_ok-a.ensures.moves in
    let mb = c.in_ok-b.ensures.moves in
    let mc = c.in_ok-c.ensures.moves in
    let ia = c.in_ok-to.ensures.inside in
    let ib = c.in_ok-to-2.ensures.inside in
    let ic = c.in_ok-to-3.ensures.inside in
    let put = c.put.ensures.put in
    record {
      moves = if-moves (c.args.sight.some, c.requires.inside) ma ia mb ib mc ic put;
      reads = λ q b. if-made (record { is = b }) c.in_ok-a.ensures.reads (record { is = c.in_ok-to.ensures.found.1 }) c.in_ok-b.ensures.reads (record { is = c.in_ok-to-2.ensures.found.1 }) c.in_ok-c.ensures.reads (record { is = c.in_ok-to-3.ensures.found.1 }) put ma mb mc
          (c.deeper.ensures ∙ ap around (c.beside-2.ensures ∙ ap (side_by_side c.in_ok-a.a.size) c.beside.ensures));
      lent = lent_then c.in_ok-a.ensures.lent (lent_then c.in_ok-b.ensures.lent (lent_then c.in_ok-c.ensures.lent (lent_put _ put)));
    }

-- repetition

pub repetition-returns-in_err-a : goal.repetition-returns-in_err-a
repetition-returns-in_err-a t c =
    rw (handed c.from_residual.result c.from_residual.ensures.1) (record { moves = tt; reads = λ q b. guard-lost (record { is = b }) c.in_err-a.ensures.reads; lent = c.in_err-a.ensures.lent })

pub repetition-returns-in_err-to : goal.repetition-returns-in_err-to
repetition-returns-in_err-to t c =
    rw (handed c.from_residual-in_err-to.result c.from_residual-in_err-to.ensures.1) (record { moves = tt; reads = λ q b. do-lost (record { is = b }) c.in_ok-a.ensures.reads c.in_err-to.ensures.found; lent = c.in_ok-a.ensures.lent })

pub repetition-returns-in_err-b : goal.repetition-returns-in_err-b
repetition-returns-in_err-b t c =
    rw (handed c.from_residual-in_err-b.result c.from_residual-in_err-b.ensures.1) (record { moves = tt; reads = λ q b. loop-lost (record { is = b }) c.in_ok-a.ensures.reads (record { is = c.in_ok-to.ensures.found.1 }) c.in_err-b.ensures.reads; lent = lent_then c.in_ok-a.ensures.lent c.in_err-b.ensures.lent })

pub repetition-returns-in_err-to-2 : goal.repetition-returns-in_err-to-2
repetition-returns-in_err-to-2 t c =
    rw (handed c.from_residual-in_err-to-2.result c.from_residual-in_err-to-2.ensures.1) (record { moves = tt; reads = λ q b. while-end-lost (record { is = b }) c.in_ok-a.ensures.reads (record { is = c.in_ok-to.ensures.found.1 }) c.in_ok-b.ensures.reads c.in_err-to-2.ensures.found; lent = lent_then c.in_ok-a.ensures.lent c.in_ok-b.ensures.lent })

pub repetition-returns : goal.repetition-returns
repetition-returns t c =
    let ma = c.in_ok-a.ensures.moves in
    let mb = c.in_ok-b.ensures.moves in
    let ia = c.in_ok-to.ensures.inside in
    let ib = c.in_ok-to-2.ensures.inside in
    let put = c.put.ensures.put in
    record {
      moves = while-moves (c.args.sight.some, c.requires.inside) ma ia mb ib put;
      reads = λ q b. while-made (record { is = b }) c.in_ok-a.ensures.reads (record { is = c.in_ok-to.ensures.found.1 }) c.in_ok-b.ensures.reads (record { is = c.in_ok-to-2.ensures.found.1 }) put ma mb (c.deeper.ensures ∙ ap around c.beside.ensures);
      lent = lent_then c.in_ok-a.ensures.lent (lent_then c.in_ok-b.ensures.lent (lent_put _ put));
    }

-- creation

pub creation-returns-in_err-class : goal.creation-returns-in_err-class
creation-returns-in_err-class t c =
    rw (handed c.from_residual.result c.from_residual.ensures.1) (record { moves = tt; reads = λ q b. class-lost (record { is = b }) c.in_err-class.ensures.found; lent = lent-same _ _ })

pub creation-returns-in_err-open : goal.creation-returns-in_err-open
creation-returns-in_err-open t c =
    rw (handed c.from_residual-in_err-open.result c.from_residual-in_err-open.ensures.1) (record { moves = tt; reads = λ q b. new-open-lost (record { is = b }) (record { is = c.in_ok-class.ensures.found }) c.in_err-open.ensures.found; lent = lent-same _ _ })

pub creation-returns-in_err-given : goal.creation-returns-in_err-given
creation-returns-in_err-given t c =
    rw (handed c.from_residual-in_err-given.result c.from_residual-in_err-given.ensures.1) (record { moves = tt; reads = λ q b. new-args-lost (record { is = b }) (record { is = c.in_ok-class.ensures.found }) (record { is = c.in_ok-open.ensures.found.1 }) c.in_err-given.ensures.reads; lent = c.in_err-given.ensures.lent })

pub creation-returns : goal.creation-returns
creation-returns t c =
    let ic = c.in_ok-class.ensures.inside in
    let io = c.in_ok-open.ensures.inside in
    let mg = c.in_ok-given.ensures.moves in
    let put = c.put.ensures.put in
    record {
      moves = new-moves (c.args.sight.some, c.requires.inside) (ic.0, c.in_ok-class.class.some, ic.1) io mg put;
      reads = λ q b. new-made (record { is = b }) (record { is = c.in_ok-class.ensures.found }) (record { is = c.in_ok-open.ensures.found.1 }) c.in_ok-given.ensures.reads put c.span.ensures.where_they_lie mg (omega arith) (omega arith) c.deeper.ensures;
      lent = lent_then c.in_ok-given.ensures.lent (lent_put _ put);
    }

-- test

pub test-returns-in_err-class : goal.test-returns-in_err-class
test-returns-in_err-class t c =
    let A = c.loop-to.invariant.1.parsed in
    rw (handed c.from_residual-in_err-class.result c.from_residual-in_err-class.ensures.1) (record { moves = tt; reads = test-class-lost A (record { is = c.in-Some.ensures.found.1 }) c.in_err-class.ensures.found; lent = c.loop-to.invariant.2 })

pub test-loop-to-preserved : goal.test-loop-to-preserved
test-loop-to-preserved t c =
    let i = c.in-Some.ensures.inside in
    let ic = c.in_ok-class.ensures.inside in
    let mg = c.loop-to.invariant.0 in
    let put = c.put-g.ensures.put in (
      test-moves mg i (ic.0, c.in_ok-class.class.some, ic.1) put,
      test-made c.loop-to.invariant.1.parsed (record { is = c.in-Some.ensures.found.1 }) (record { is = c.in_ok-class.ensures.found }) put c.span.ensures.where_they_lie mg (omega arith) (omega arith) c.deeper.ensures,
      lent_then c.loop-to.invariant.2 (lent_put _ put),
    )

-- operand

pub operand-returns-in_err-method : goal.operand-returns-in_err-method
operand-returns-in_err-method t c =
    let A = c.loop-to.invariant.1 in
    rw (handed c.from_residual-in_err-method.result c.from_residual-in_err-method.ensures.1) (record { moves = tt; reads = method-lost A (record { is = c.in-Some.ensures.found.1 }) c.in_err-method.ensures.found; lent = c.loop-to.invariant.2 })

pub operand-returns-in_err-open : goal.operand-returns-in_err-open
operand-returns-in_err-open t c =
    let A = c.loop-to.invariant.1 in
    rw (handed c.from_residual-in_err-open.result c.from_residual-in_err-open.ensures.1) (record { moves = tt; reads = call-open-lost A (record { is = c.in-Some.ensures.found.1 }) (record { is = c.in_ok-method.ensures.found }) c.in_err-open.ensures.found; lent = c.loop-to.invariant.2 })

pub operand-returns-in_err-given : goal.operand-returns-in_err-given
operand-returns-in_err-given t c =
    let A = c.loop-to.invariant.1 in
    rw (handed c.from_residual-in_err-given.result c.from_residual-in_err-given.ensures.1) (record { moves = tt; reads = call-args-lost A (record { is = c.in-Some.ensures.found.1 }) (record { is = c.in_ok-method.ensures.found }) (record { is = c.in_ok-open.ensures.found.1 }) c.in_err-given.ensures.reads; lent = lent_then c.loop-to.invariant.2 c.in_err-given.ensures.lent })

pub operand-loop-to-preserved : goal.operand-loop-to-preserved
operand-loop-to-preserved t c =
    let i = c.in-Some.ensures.inside in
    let im = c.in_ok-method.ensures.inside in
    let io = c.in_ok-open.ensures.inside in
    let mg = c.loop-to.invariant.0 in
    let mx = c.in_ok-given.ensures.moves in
    let put = c.put-g.ensures.put in (
      call-moves mg i (im.0, c.in_ok-method.method.some, im.1) io mx put,
      call-made c.loop-to.invariant.1 (record { is = c.in-Some.ensures.found.1 }) (record { is = c.in_ok-method.ensures.found }) (record { is = c.in_ok-open.ensures.found.1 }) c.in_ok-given.ensures.reads put c.span.ensures.where_they_lie mg mx (omega arith) (omega arith) (c.deeper.ensures ∙ ap around c.beside.ensures),
      lent_then c.loop-to.invariant.2 (lent_then c.in_ok-given.ensures.lent (lent_put _ put)),
    )

-- primary
pub primary-returns-in-Name : goal.primary-returns-in-Name
primary-returns-in-Name t c =
    let i = c.in-Some.ensures.inside in
    record { moves = earlier i.0 c.local.ensures.moves; reads = c.local.ensures.reads c.args.at (shown-as c.args.self.bytes.now c.args.at c.in-Some.sight c.in-Some.ensures.shows c.in-Name.is); lent = c.local.ensures.lent }

pub primary-returns-in-Integer : goal.primary-returns-in-Integer
primary-returns-in-Integer t c =
    let i = c.in-Some.ensures.inside in
    record { moves = earlier i.0 c.integer.ensures.moves; reads = c.integer.ensures.reads c.args.at _ (shown-as c.args.self.bytes.now c.args.at c.in-Some.sight c.in-Some.ensures.shows c.in-Integer.is); lent = c.integer.ensures.lent _ }

pub primary-returns-in-Field : goal.primary-returns-in-Field
primary-returns-in-Field t c =
    let i = c.in-Some.ensures.inside in
    record { moves = earlier i.0 c.field.ensures.moves; reads = c.field.ensures.reads c.args.at _ (shown-as c.args.self.bytes.now c.args.at c.in-Some.sight c.in-Some.ensures.shows c.in-Field.is); lent = c.field.ensures.lent _ }

pub primary-returns-in-Str : goal.primary-returns-in-Str
primary-returns-in-Str t c =
    let i = c.in-Some.ensures.inside in
    record { moves = earlier i.0 c.string.ensures.moves; reads = c.string.ensures.reads c.args.at _ (shown-as c.args.self.bytes.now c.args.at c.in-Some.sight c.in-Some.ensures.shows c.in-Str.is); lent = c.string.ensures.lent _ }

pub primary-returns-in-Word : goal.primary-returns-in-Word
primary-returns-in-Word t c =
    let i = c.in-Some.ensures.inside in
    record { moves = IfOk-weaker c.keyed.result _ _ (λ g m. earlier i.0 m) c.keyed.ensures.moves; reads = c.keyed.ensures.reads c.args.at (shown-as c.args.self.bytes.now c.args.at c.in-Some.sight c.in-Some.ensures.shows c.in-Word.is); lent = c.keyed.ensures.lent }

pub primary-returns-in_default : goal.primary-returns-in_default
primary-returns-in_default t c = record { moves = tt; reads = end-lost c.in_default.ensures.shows; lent = lent-same _ _ }

pub primary-returns-in-Sign : goal.primary-returns-in-Sign
primary-returns-in-Sign t c = record { moves = tt; reads = token-lost (record { is = shown-as c.args.self.bytes.now c.args.at c.in-Some.sight c.in-Some.ensures.shows c.in-Sign.is }) (idle-sign _); lent = lent-same _ _ }

-- keyed
pub keyed-returns-in-If : goal.keyed-returns-in-If
keyed-returns-in-If t c = record { moves = c.conditional.ensures.moves; reads = λ q b. c.conditional.ensures.reads q (shown-as c.args.self.bytes.now q c.args.sight b (ap sort.Word c.in-If.is)); lent = c.conditional.ensures.lent }

pub keyed-returns-in-While : goal.keyed-returns-in-While
keyed-returns-in-While t c = record { moves = c.repetition.ensures.moves; reads = λ q b. c.repetition.ensures.reads q (shown-as c.args.self.bytes.now q c.args.sight b (ap sort.Word c.in-While.is)); lent = c.repetition.ensures.lent }

pub keyed-returns-in-New : goal.keyed-returns-in-New
keyed-returns-in-New t c = record { moves = c.creation.ensures.moves; reads = λ q b. c.creation.ensures.reads q (shown-as c.args.self.bytes.now q c.args.sight b (ap sort.Word c.in-New.is)); lent = c.creation.ensures.lent }

pub keyed-returns-in-Nil : goal.keyed-returns-in-Nil
keyed-returns-in-Nil t c =
    let s = c.args.sight in
    let put = c.leaf.ensures.put in
    record {
      moves = leaf-moves c.requires.few (c.args.sight.some, c.requires.inside) put;
      reads = λ q b. leaf-made (Expr.nil s.from) (record { is = shown-as c.args.self.bytes.now q c.args.sight b (ap sort.Word c.in-Nil.is) })
          (omega arith) (λ k. refl) (λ ns. refl) (λ u i. let z : ◌≡◌ {A = ℕ} 0 1 = cc in never z) refl put refl (plain-sized (Expr.nil s.from) refl refl tt (omega arith) (omega arith)) (λ ns k. k) (λ mem lies is. is);
      lent = lent_put _ put;
    }

pub keyed-returns-in-SelfWord : goal.keyed-returns-in-SelfWord
keyed-returns-in-SelfWord t c =
    let s = c.args.sight in
    let put = c.leaf-in-SelfWord.ensures.put in
    record {
      moves = leaf-moves c.requires.few (c.args.sight.some, c.requires.inside) put;
      reads = λ q b. leaf-made (Expr.self s.from) (record { is = shown-as c.args.self.bytes.now q c.args.sight b (ap sort.Word c.in-SelfWord.is) })
          (omega arith) (λ k. refl) (λ ns. refl) (λ u i. let z : ◌≡◌ {A = ℕ} 0 1 = cc in never z) refl put refl (plain-sized (Expr.self s.from) refl refl tt (omega arith) (omega arith)) (λ ns k. k) (λ mem lies is. is);
      lent = lent_put _ put;
    }

pub keyed-returns-in_default : goal.keyed-returns-in_default
keyed-returns-in_default t c =
    record {
      moves = tt;
      reads = λ q b. token-lost (record { is = b }) (idle-word c.args.keyword c.in_default.not-If c.in_default.not-While c.in_default.not-New c.in_default.not-Nil c.in_default.not-SelfWord);
      lent = lent-same _ _;
    }

-- arguments
pub arguments-returns-in-Some : goal.arguments-returns-in-Some
arguments-returns-in-Some t c =
    let i = c.in-Some.ensures.inside in
    let d = c.closed.ensures.as_given in
    record {
      moves = none_moves (ap (λ z. z.arguments.count) c.none-none.ensures.none) c.requires.few i d;
      reads = none_made (record { is = c.in-Some.ensures.found.1 }) c.none-none.ensures.none d;
      lent = lent-same _ _;
    }

pub arguments-returns-in_err-e : goal.arguments-returns-in_err-e
arguments-returns-in_err-e t c =
    rw (handed c.from_residual.result c.from_residual.ensures.1) (record { moves = tt; reads = first-lost c.in_default.ensures.found c.in_err-e.ensures.reads; lent = c.in_err-e.ensures.lent })

pub arguments-returns-in_err-e-2 : goal.arguments-returns-in_err-e-2
arguments-returns-in_err-e-2 t c =
    let A = c.loop-to.invariant.1 in
    rw (handed c.from_residual-in_err-e-2.result c.from_residual-in_err-e-2.ensures.1) (record { moves = tt; reads = next-lost A (record { is = c.in-Some-after.ensures.found.1 }) c.in_err-e-2.ensures.reads; lent = lent_then c.loop-to.invariant.2 c.in_err-e-2.ensures.lent })

pub arguments-returns-in_err-to : goal.arguments-returns-in_err-to
arguments-returns-in_err-to t c =
    let A = c.loop-to.invariant.1 in
    rw (handed c.from_residual-in_err-to.result c.from_residual-in_err-to.ensures.1) (record { moves = tt; reads = close-lost A c.in_default-after.ensures.found c.in_err-to.ensures.found; lent = c.loop-to.invariant.2 })

pub arguments-loop-to-init : goal.arguments-loop-to-init
arguments-loop-to-init t c =
    let me = c.in_ok-e.ensures.moves in
    let w = c.with-given.ensures.one_more in (
      first-moves (ap (λ z. z.arguments.count) c.none-none.ensures.none) me w,
      first_made c.in_default.ensures.found c.none-none.ensures.none c.in_ok-e.ensures.reads w me,
      c.in_ok-e.ensures.lent,
    )

pub arguments-loop-to-preserved : goal.arguments-loop-to-preserved
arguments-loop-to-preserved t c =
    let i = c.in-Some-after.ensures.inside in
    let mg = c.loop-to.invariant.0 in
    let me = c.in_ok-e-2.ensures.moves in
    let w = c.with-given-in-Some-after.ensures.one_more in (
      next-moves mg i me w,
      next-made c.loop-to.invariant.1 (record { is = c.in-Some-after.ensures.found.1 }) c.in_ok-e-2.ensures.reads w me mg.more,
      lent_then c.loop-to.invariant.2 c.in_ok-e-2.ensures.lent,
    )

pub arguments-returns : goal.arguments-returns
arguments-returns t c =
    let A = c.loop-to.invariant.1 in
    let mg = c.loop-to.invariant.0 in
    let i = c.in_ok-to.ensures.inside in
    let d = c.closed-2.ensures.as_given in
    let e = ap (λ z. z.count) d.same in
    record {
      moves = close-moves mg i d;
      reads = args-made A (record { is = c.in_ok-to.ensures.found.1 }) d;
      lent = c.loop-to.invariant.2;
    }
