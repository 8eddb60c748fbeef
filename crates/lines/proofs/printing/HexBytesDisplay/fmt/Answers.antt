use Rattle.std.proofs.Common.{◌≡◌, ℕ, ◌-◌, ◌^◌, ◌<◌, true, false, List, [], ◌∷◌, get_or, Some, Option, Ok, refl, ap, ◌∙◌, subst, rules}
use Rattle.std.proofs.lemmas.Fmt.{hex_byte}
use Rattle.std.specs.Fmt.{DisplaysOnOk, styled_digits_output, padded_integral, format_spec}
use Rattle.std.specs.Option.{option_map}
use Rattle.text.specs.Writing.{capital_digit, bytes_text}
use Rattle.lines.proofs.Pieces.{bytes_flat, piece_put}
use Rattle.lines.proofs.printing.HexBytesDisplay.fmt.Goals as goal

pub loop-byte-preserved : goal.loop-byte-preserved
loop-byte-preserved g c plain =
    let took = g.W.Write.write_str_gives in
    let bytes = c.args.self.now.bytes.now in
    let x = get_or bytes c.loop-byte.byte-index 0 in
    let small : x < 256 = search rules in
    let digits : styled_digits_output c.in_radix.result c.laid_out.result ≡ Some (bytes_text capital_digit (x ∷ [])) =
    ap (styled_digits_output c.in_radix.result) c.laid_out.ensures
    ∙ ap (option_map (padded_integral (format_spec 32 0 4 2 (2 ^ 64 - 1)) false [])) c.in_radix.ensures ∙ ap Some (hex_byte true x small) in
    let before = c.loop-byte.invariant plain in
    piece_put took (bytes_text capital_digit) (λ y. bytes_text capital_digit (y ∷ [])) (bytes_flat capital_digit) _ _ _ bytes c.loop-byte.byte-index 0 c.loop-byte-test.true before
    (subst (λ (o : Option (List ℕ)). DisplaysOnOk took c.loop-byte.f (Ok c.in_ok-write.field-0) o c.write.new.self) digits c.in_ok-write.ensures.writes before.plain refl)
