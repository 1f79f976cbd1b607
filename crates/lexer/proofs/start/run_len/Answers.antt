use borrow.Author.Tests.{tests}
use Rattle.std.proofs.Common.{◌≡◌, ◌≤◌, length, rules, arith}
use Rattle.std.specs.List.{take_while}
use Rattle.std.proofs.lemmas.Iterator.{YieldsList-from_slice}
use Rattle.std.proofs.lemmas.Iterator.Consumers.{count_from_yields_List}
use Rattle.std.proofs.lemmas.Iterator.Search.{YieldsList-from_take_while}
use Rattle.lexer.specs.Byte.{goes_on}
use Rattle.lexer.proofs.Runs.{front-within}
use Rattle.lexer.proofs.start.run_len.Goals as goal

pub returns : goal.returns
returns c =
    let is : c.count.result ≡ length (take_while (goes_on c.args.run) c.args.rest.now) =
    count_from_yields_List c.take_while.result _ c.count.ensures.ran
    (YieldsList-from_take_while _ (goes_on c.args.run) (YieldsList-from_slice c.args.rest.now (cc)) c.take_while.ensures.closure c.take_while.ensures.done (λ x b q k. search (rules, tests))) in
    let few : length (take_while (goes_on c.args.run) c.args.rest.now) ≤ length c.args.rest.now = front-within (goes_on c.args.run) c.args.rest.now in
    record { longest = omega arith; within = omega arith }
