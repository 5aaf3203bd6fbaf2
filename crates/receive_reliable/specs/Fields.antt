-- The fields of a receiver as a contract sees them, and back. Assumes nothing.
use Rattle.receive_reliable.specs.State.{State}
use Rattle.receive_reliable.specs.declared.ReceiveChannelReliable.TheInside.{Inside}

abbrev pub state_of : Inside → State
state_of a =
    record {
      settings = a.settings;
      oldest_pending_message_id = a.oldest_pending_message_id;
      memory_usage_bytes = a.memory_usage_bytes;
      cells = a.cells;
      cell_ids = a.cell_ids;
      cell_lens = a.cell_lens;
      lanes = a.lanes;
      whole = a.whole;
      lane_ids = a.lane_ids;
      lane_lens = a.lane_lens;
      constructors = a.constructors;
    }

abbrev pub fields_of : State → Inside
fields_of s =
    record {
      settings = s.settings;
      oldest_pending_message_id = s.oldest_pending_message_id;
      memory_usage_bytes = s.memory_usage_bytes;
      cells = s.cells;
      cell_ids = s.cell_ids;
      cell_lens = s.cell_lens;
      lanes = s.lanes;
      whole = s.whole;
      lane_ids = s.lane_ids;
      lane_lens = s.lane_lens;
      constructors = s.constructors;
    }
