use Rattle.std.proofs.Common.{length, get_or, is_some, refl, ap, ◌∙◌, arith}
use Rattle.std.proofs.lemmas.Bool.{lt-ltb, le-ltb}
use Rattle.std.proofs.lemmas.Result.{err_from_is_err_and}
use Rattle.text.specs.Memory.{memory_of}
use Rattle.store.proofs.Tables.{takes-present, takes-new}
use Rattle.buckets.specs.Chains.{unused}
use Rattle.buckets.proofs.Chaining.{links, fit, long-set, linked-set}
use Rattle.buckets.proofs.Storing.{valued, holds-pairs, holds-made, holds-unmade, holds-found, holds-none, holds-set, inside-set}
use Rattle.buckets.proofs.BucketStoreStore.write.Goals as goal

-- a value replaced
pub invariant_of-self : goal.invariant_of-self
invariant_of-self c =
    let s = c.args.self.now in
    let es = s.entries.now in
    let i = c.in-Some.i in
    let e = valued (get_or es i unused) c.args.value in
    let linked = linked-set es s.chains.now s.len (links s) i e (omega (arith, fit s, c.in-Some.ensures.within)) refl (λ _. refl) in
    record {
      entered = long-set s.room es i e s.entered;
      filled = s.filled;
      limit = s.limit;
      numbered = s.numbered;
      firsts = linked.0;
      lasts = linked.1.0;
      nexts = linked.1.1.0;
      gaps = linked.1.1.1.0;
    }

pub returns-in_err-check-clause-holds : goal.returns-in_err-check-clause-holds
returns-in_err-check-clause-holds c =
    let s = c.args.self.now in
    let p = err_from_is_err_and c.from_residual.result c.from_residual.ensures.1 in
    rw (p.1, p.2) (λ T h. (holds-unmade s.entries.now s.len (fit s) (length s.chains.now) s.tables.made (memory_of c.args.bytes) T h c.args.key.location.0 c.in_err-check.ensures.made, h))

pub returns-in-Some : goal.returns-in-Some
returns-in-Some c =
    let s = c.args.self.now in
    let es = s.entries.now in
    let many = length s.chains.now in
    let m = memory_of c.args.bytes in
    let k = c.args.key in
    let i = c.in-Some.i in
    let v = c.args.value in
    let at = c.in-Some.ensures in
    record {
      holds = λ T h.
          let there = holds-made es s.len (fit s) many s.tables.made m T h c.args.key.location.0 c.in_ok-check.ensures.made in
          let found = holds-found es s.len (fit s) many s.tables.made m T h k i (at.first h.placed) at.within in
          (there, takes-present s.room T _ _ there (ap is_some found), holds-set es s.len (fit s) many s.tables.made m T h k i v (at.first h.placed) at.within c.in_ok-check.ensures.made);
      within = λ u w _ e. inside-set es s.len (fit s) u i v at.within w e;
      refusal = tt;
      tables = refl;
      room = refl;
    }

pub returns-then-self : goal.returns-then-self
returns-then-self c =
    let s = c.args.self.now in
    let es = s.entries.now in
    let many = length s.chains.now in
    let m = memory_of c.args.bytes in
    let k = c.args.key in
    record {
      holds = λ T h.
          let there = holds-made es s.len (fit s) many s.tables.made m T h c.args.key.location.0 c.in_ok-check.ensures.made in
          let none = holds-none es s.len (fit s) many s.tables.made m T h k (c.in-None.ensures.first h.placed) in
          (there, takes-new s.room T _ _ there none ∙ le-ltb _ _ (omega (arith, holds-pairs es s.len (fit s) many s.tables.made m T h)), h);
      within = λ u w _ _. w;
      refusal = refl;
      tables = refl;
      room = refl;
    }

pub returns-else-self : goal.returns-else-self
returns-else-self c =
    let s = c.args.self.now in
    let es = s.entries.now in
    let many = length s.chains.now in
    let m = memory_of c.args.bytes in
    let k = c.args.key in
    record {
      holds = λ T h.
          let there = holds-made es s.len (fit s) many s.tables.made m T h c.args.key.location.0 c.in_ok-check.ensures.made in
          let first = c.in-None.ensures.first h.placed in
          let none = holds-none es s.len (fit s) many s.tables.made m T h k first in
          (there, takes-new s.room T _ _ there none ∙ lt-ltb _ _ (omega (arith, holds-pairs es s.len (fit s) many s.tables.made m T h)), c.append.ensures.holds T h first c.in_ok-check.ensures.made);
      within = c.append.ensures.within;
      refusal = tt;
      tables = c.append.ensures.tables;
      room = c.append.ensures.room;
    }
