use Rattle.std.proofs.Common.{◌≡◌, ◌==◌, not, length, drop, ap, ◌∙◌, rules, tests, arith, length-drop}
use Rattle.std.proofs.lemmas.Iterator.{YieldsList-from_slice}
use Rattle.std.proofs.lemmas.Iterator.Search.{position_from_yields_List}
use Rattle.std.proofs.lemmas.List.{take_all}
use Rattle.std.specs.List.{position}
use Rattle.std.specs.Option.{unwrap_or}
use Rattle.script.proofs.Scan.{past_spaces}
use Rattle.script.proofs.tokens.without_spaces.Goals as goal

pub returns : goal.returns
returns c =
    let text = c.args.text.now in
    let start = c.unwrap_or-spaces.result in
    let found : c.position.result ≡ position (λ b. not (b == 32)) text = position_from_yields_List (λ b. not (b == 32)) _ _ c.position.result c.position.ensures.ran (YieldsList-from_slice _ c.iter.ensures.rest) (λ x b q k. search (rules, tests)) in
    take_all _ (drop start text) (omega (arith, length-drop start text))
    ∙ ap (λ n. drop n text) (c.unwrap_or-spaces.ensures ∙ ap (λ o. unwrap_or o (length text)) found) ∙ past_spaces text
