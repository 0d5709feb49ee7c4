use Rattle.std.proofs.Common.{sym, ◌∙◌}
use Rattle.grain_lines.proofs.WordLaws.{words-first_of, words-last_of}
use Rattle.grain_lines.proofs.words.next_word.Goals as goal

pub returns-in-Some-clause-some : goal.returns-in-Some-clause-some
returns-in-Some-clause-some c =
    sym c.skip_spaces-text.ensures.same
    ∙ words-first_of c.skip_spaces-text.result.now c.in-Some.word.now c.in-Some.rest.now c.in-Some.ensures.parts c.skip_spaces-text.ensures.starts c.in-Some.ensures.first

pub returns-in-None-clause-some : goal.returns-in-None-clause-some
returns-in-None-clause-some c =
    sym c.skip_spaces-text.ensures.same ∙ words-last_of c.skip_spaces-text.result.now c.if-is_empty.ensures c.in-None.ensures.none
