use Rattle.std.proofs.Common.{◌≡◌, ◌^◌, ◌<◌, drop}
use Rattle.script.specs.Grammar.{digits_value}
use Rattle.script.proofs.tokens.digits_number.Given as goal

abbrev pub invariant-loop-byte : goal.invariant-loop-byte
invariant-loop-byte l = (l.value < 10 ^ l.byte-index) × (digits_value l.value (drop l.byte-index l.digits) ≡ digits_value 0 l.digits)
