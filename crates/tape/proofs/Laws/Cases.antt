-- The sample tape, computed.
use mathlib.Core.Path.{refl}
use Rattle.lines.specs.Lists.{numbers_from}
use Rattle.tape.specs.Tapes.{word_at, records_end, tape_end, refusedb, count_of, message_count_of, record_from, record_at, message_at, records_of, messages_of}
use Rattle.tape.specs.Cases.{sample, Cases}

pub cases : Cases
unfolding sample word_at records_end tape_end refusedb count_of message_count_of record_from record_at message_at numbers_from records_of messages_of
cases =
    record {
      accepted = refl;
      records = refl;
      messages = refl;
      length = (refl, refl, refl, refl);
      counts = (refl, refl);
      offsets = (refl, refl, refl);
    }
