-- Operators by their numbers.
use Rattle.std.specs.Prelude.{ℕ, ◌⊎◌, List, string_bytes}
use Rattle.std.proofs.Common.{inl, inr}
use Rattle.grain_base.specs.declared.token.Token.{Token}
use Rattle.grain_base.specs.declared.token.Token.TheVariants as token

abbrev pub TokenParts : Type 0
TokenParts = List ℕ ⊎ ℕ

-- the text of an operator that the host has added, or the number of another
abbrev pub token_parts : Token → TokenParts
token_parts token.Plus = inr 0
token_parts token.UnaryPlus = inr 1
token_parts token.Minus = inr 2
token_parts token.UnaryMinus = inr 3
token_parts token.Multiply = inr 4
token_parts token.Divide = inr 5
token_parts token.Modulo = inr 6
token_parts token.PowerOf = inr 7
token_parts token.LeftShift = inr 8
token_parts token.RightShift = inr 9
token_parts token.Ampersand = inr 10
token_parts token.Pipe = inr 11
token_parts token.XOr = inr 12
token_parts token.And = inr 13
token_parts token.Or = inr 14
token_parts token.Bang = inr 15
token_parts token.DoubleQuestion = inr 16
token_parts token.EqualsTo = inr 17
token_parts token.NotEqualsTo = inr 18
token_parts token.LessThan = inr 19
token_parts token.LessThanEqualsTo = inr 20
token_parts token.GreaterThan = inr 21
token_parts token.GreaterThanEqualsTo = inr 22
token_parts token.In = inr 23
token_parts token.NotIn = inr 24
token_parts token.ExclusiveRange = inr 25
token_parts token.InclusiveRange = inr 26
token_parts token.Equals = inr 27
token_parts token.PlusAssign = inr 28
token_parts token.MinusAssign = inr 29
token_parts token.MultiplyAssign = inr 30
token_parts token.DivideAssign = inr 31
token_parts token.ModuloAssign = inr 32
token_parts token.PowerOfAssign = inr 33
token_parts token.LeftShiftAssign = inr 34
token_parts token.RightShiftAssign = inr 35
token_parts token.AndAssign = inr 36
token_parts token.OrAssign = inr 37
token_parts token.XOrAssign = inr 38
token_parts (token.Custom s) = inl (string_bytes s)
