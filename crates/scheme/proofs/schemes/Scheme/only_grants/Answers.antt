use Rattle.std.proofs.Common.{rules, tests}
use Rattle.std.proofs.lemmas.Iterator.{YieldsList-from_slice}
use Rattle.std.proofs.lemmas.Iterator.Search.{all_from_yields_List}
use Rattle.std.proofs.lemmas.List.Folds.{list_all-map}
use Rattle.scheme.specs.Rules.{command_of, only_enters}
use Rattle.scheme.proofs.schemes.Scheme.only_grants.Goals as goal

pub returns : goal.returns
returns c =
    let xs = c.commands.result.now in
    let all = all_from_yields_List (λ x. only_enters (command_of x)) _ _ c.all.result c.all.ensures.ran (YieldsList-from_slice xs cc) (λ x b q k. search (rules, tests)) in
    cc (all, list_all-map only_enters command_of xs)
