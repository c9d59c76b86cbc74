-- What two answers in a row come to.
use Rattle.narrower.specs.declared.answer.Answer.{Answer}
use Rattle.narrower.specs.declared.answer.Answer.TheVariants.{Stood, Narrowed, Empty}

-- none if either is none, else narrowed if either is narrowed
abbrev pub joined_of : Answer → Answer → Answer
joined_of Stood b = b
joined_of Empty b = Empty
joined_of Narrowed Stood = Narrowed
joined_of Narrowed Narrowed = Narrowed
joined_of Narrowed Empty = Empty
