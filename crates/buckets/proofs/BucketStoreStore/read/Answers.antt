use Rattle.std.proofs.Common.{length, sym}
use Rattle.std.proofs.lemmas.Result.{err_from_is_err_and}
use Rattle.buckets.proofs.Chaining.{fit}
use Rattle.text.specs.Memory.{memory_of}
use Rattle.buckets.proofs.Storing.{holds-made, holds-unmade, holds-found, holds-none, inside-value}
use Rattle.buckets.proofs.BucketStoreStore.read.Goals as goal

pub returns-in_err-check-clause-holds : goal.returns-in_err-check-clause-holds
returns-in_err-check-clause-holds c =
    let s = c.args.self.now in
    let p = err_from_is_err_and c.from_residual.result c.from_residual.ensures.1 in
    rw p.1 (λ T h. holds-unmade s.entries.now s.len (fit s) (length s.chains.now) s.tables.made (memory_of c.args.bytes) T h c.args.key.location.0 c.in_err-check.ensures.made)

pub returns-in-Some : goal.returns-in-Some
returns-in-Some c =
    let s = c.args.self.now in
    let es = s.entries.now in
    let many = length s.chains.now in
    let m = memory_of c.args.bytes in
    let k = c.args.key in
    let at = c.in-Some.ensures in
    record {
      holds = λ T h. (
        holds-made es s.len (fit s) many s.tables.made m T h c.args.key.location.0 c.in_ok-check.ensures.made,
        sym (holds-found es s.len (fit s) many s.tables.made m T h k c.in-Some.i (at.first h.placed) at.within),
      );
      within = λ u w. inside-value es s.len (fit s) u c.in-Some.i at.within w;
    }

pub returns-in-None : goal.returns-in-None
returns-in-None c =
    let s = c.args.self.now in
    let es = s.entries.now in
    let many = length s.chains.now in
    let m = memory_of c.args.bytes in
    let k = c.args.key in
    record {
      holds = λ T h. (
        holds-made es s.len (fit s) many s.tables.made m T h c.args.key.location.0 c.in_ok-check.ensures.made,
        sym (holds-none es s.len (fit s) many s.tables.made m T h k (c.in-None.ensures.first h.placed)),
      );
      within = λ u w. tt;
    }
