-- `answers::packets::read` meets its contract: what is read into the table of ranges that the words name is set down again. Assumes nothing.
use mathlib.Core.Path.{ap, ◌∙◌}
use mathlib.Core.List.{List}
use lib.ListN.{length}
use Rattle.packet.specs.Packet.{leaves, ranges_of}
use Rattle.packet_ack.specs.declared.Range.{Range}
use Rattle.range_words.specs.Words.{set_down}
use Rattle.answers.specs.Packets.{packet_in}
use Rattle.answers.proofs.packets.read.Goals as goal

pub returns : goal.returns
returns c =
    let s = c.args in
    let d = c.decode-d.ensures in
    record {
      answer = d.answer;
      messages = d.messages;
      ranges = c.to_words.ensures ∙ ap (λ (t : List Range). set_down t s.ranges.now) (d.ranges ∙ ap (leaves ranges_of (packet_in s.bytes.now (length s.messages.now) (length s.ranges.now))) c.from_words-before.ensures);
    }
