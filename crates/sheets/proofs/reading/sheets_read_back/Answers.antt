use Rattle.sheets.proofs.Readings.{one_stands, text_is_part, one_reading, reads_back}
use Rattle.sheets.proofs.reading.sheets_read_back.Goals as goal

pub returns : goal.returns
returns c = record { stands = one_stands; part = text_is_part; reading = one_reading; back = reads_back }
