-- The fields of a receiver as a contract sees them, and back. Assumes nothing.
use Rattle.receive_unreliable.specs.State.{State}
use Rattle.receive_unreliable.specs.declared.ReceiveChannelUnreliable.TheInside.{Inside}

abbrev pub state_of : Inside → State
state_of a =
    record {
      settings = a.settings;
      memory_usage_bytes = a.memory_usage_bytes;
      latest = a.latest;
      cells = a.cells;
      cell_lens = a.cell_lens;
      lanes = a.lanes;
      lane_lens = a.lane_lens;
      opens = a.opens;
      lane_ids = a.lane_ids;
      last_received = a.last_received;
      constructors = a.constructors;
      count = a.count;
      queue = a.queue;
    }

abbrev pub fields_of : State → Inside
fields_of s =
    record {
      settings = s.settings;
      memory_usage_bytes = s.memory_usage_bytes;
      latest = s.latest;
      cells = s.cells;
      cell_lens = s.cell_lens;
      lanes = s.lanes;
      lane_lens = s.lane_lens;
      opens = s.opens;
      lane_ids = s.lane_ids;
      last_received = s.last_received;
      constructors = s.constructors;
      count = s.count;
      queue = s.queue;
    }
