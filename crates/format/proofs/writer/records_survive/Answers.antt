use Rattle.format.proofs.SurvivalLaws.{records_read_back, record_bytes_written_back}
use Rattle.format.proofs.writer.records_survive.Goals as goal

pub returns : goal.returns
returns c = record { read_back = records_read_back; written_back = record_bytes_written_back }
