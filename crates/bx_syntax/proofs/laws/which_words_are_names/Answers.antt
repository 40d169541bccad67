use Rattle.bx_syntax.proofs.Words.{refused_words_are, names_are, name_is_word}
use Rattle.bx_syntax.proofs.laws.which_words_are_names.Goals as goal

pub returns-clause-refused : goal.returns-clause-refused
returns-clause-refused c = refused_words_are

pub returns-clause-names : goal.returns-clause-names
returns-clause-names c = names_are

pub returns-clause-same : goal.returns-clause-same
returns-clause-same c = name_is_word
