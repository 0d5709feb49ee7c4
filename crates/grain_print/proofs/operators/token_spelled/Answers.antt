use Rattle.std.proofs.Common.{ap, sym, Some, ◌∙◌}
use Rattle.grain_base.specs.Tokens.{token_parts}
use Rattle.grain_print.proofs.SpelledTokens.{number_found, number_only, text_found, text_only, unary_minus, unary_plus}
use Rattle.grain_print.proofs.operators.token_spelled.Goals as goal

pub returns-in-text-clause-found : goal.returns-in-text-clause-found
returns-in-text-clause-found c = number_found c.args.spelling.now 1 c.of_number.result (unary_plus ∙ ap Some (sym c.in-text.is)) c.of_number.ensures.found

pub returns-in-text-clause-only : goal.returns-in-text-clause-only
returns-in-text-clause-only c = λ token e.
    number_only c.args.spelling.now 1 c.of_number.result (token_parts token) (unary_plus ∙ ap Some (sym c.in-text.is)) c.of_number.ensures.found c.of_number.ensures.none e

pub returns-in-text-2-clause-found : goal.returns-in-text-2-clause-found
returns-in-text-2-clause-found c = number_found c.args.spelling.now 3 c.of_number-in-text-2.result (unary_minus ∙ ap Some (sym c.in-text-2.is)) c.of_number-in-text-2.ensures.found

pub returns-in-text-2-clause-only : goal.returns-in-text-2-clause-only
returns-in-text-2-clause-only c = λ token e.
    number_only c.args.spelling.now 3 c.of_number-in-text-2.result (token_parts token) (unary_minus ∙ ap Some (sym c.in-text-2.is)) c.of_number-in-text-2.ensures.found c.of_number-in-text-2.ensures.none e

pub returns-in_default-clause-found : goal.returns-in_default-clause-found
returns-in_default-clause-found c = text_found c.args.spelling.now c.of_syntax.result c.of_syntax.ensures

pub returns-in_default-clause-only : goal.returns-in_default-clause-only
returns-in_default-clause-only c = λ token e.
    text_only c.args.spelling.now c.of_syntax.result (token_parts token) c.in_default.not-text c.in_default.not-text-2 c.of_syntax.ensures e
