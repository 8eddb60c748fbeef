use Rattle.std.proofs.Common.{take}
use Rattle.std.specs.Fmt.{IsPlainFormatter, HasWritten}
use Rattle.text.specs.Writing.{capital_digit, bytes_text}
use Rattle.lines.proofs.printing.HexBytesDisplay.fmt.Given as goal

-- the digits of the bytes so far have been written
abbrev pub invariant-loop-byte : goal.invariant-loop-byte
invariant-loop-byte g l = IsPlainFormatter l.initial.f → HasWritten g.W.Write.write_str_gives l.initial.f (bytes_text capital_digit (take l.byte-index l.self.bytes.now)) l.f
