-- The fields of a reliable sender as a contract sees them, and back. Assumes nothing.
use Rattle.send_reliable.specs.State.{State}
use Rattle.send_reliable.specs.declared.SendChannelReliable.TheInside.{Inside}

abbrev pub state_of : Inside → State
state_of a =
    record {
      channel_id = a.channel_id;
      settings = a.settings;
      resend_time = a.resend_time;
      next_reliable_message_id = a.next_reliable_message_id;
      memory_usage_bytes = a.memory_usage_bytes;
      latest = a.latest;
      count = a.count;
      rows = a.rows;
      cells = a.cells;
      lanes = a.lanes;
      pieces = a.pieces;
    }

abbrev pub fields_of : State → Inside
fields_of s =
    record {
      channel_id = s.channel_id;
      settings = s.settings;
      resend_time = s.resend_time;
      next_reliable_message_id = s.next_reliable_message_id;
      memory_usage_bytes = s.memory_usage_bytes;
      latest = s.latest;
      count = s.count;
      rows = s.rows;
      cells = s.cells;
      lanes = s.lanes;
      pieces = s.pieces;
    }
