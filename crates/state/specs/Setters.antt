-- The struct with one field replaced.
use Rattle.std.specs.Prelude.{ℕ, Bool, set}
use Rattle.layout.specs.declared.Ids.{Ids}
use Rattle.state.specs.declared.fields.Config.{Config}
use Rattle.state.specs.declared.fields.Position.{Position}
use Rattle.state.specs.declared.fields.Message.{Message}
use Rattle.state.specs.declared.fields.SignRoundInfo.{SignRoundInfo}
use Rattle.state.specs.declared.fields.ResponseSlot.{ResponseSlot}
use Rattle.state.specs.declared.fields.Records.{Records}
use Rattle.state.specs.declared.fields.Shares.{Shares}
use Rattle.state.specs.declared.fields.Marks.{Marks}
use Rattle.state.specs.declared.fields.Clocks.{Clocks}
use Rattle.state.specs.declared.fields.Keys.{Keys}
use Rattle.state.specs.declared.fields.Coordinator.{Coordinator}

-- a struct of these fields
abbrev fields : Bool → Config → Ids → Position → Message → Records → Shares → Marks → Clocks → Keys → Bool → Coordinator
fields held g ids p m rs ss flags clocks keys job =
    record {
      commissioned = held;
      config = g;
      ids = ids;
      position = p;
      message = m;
      records = rs;
      shares = ss;
      marks = flags;
      clocks = clocks;
      keys = keys;
      job = job;
    }

abbrev pub set_config : Config → Coordinator → Coordinator
set_config x s =
    fields s.commissioned x s.ids s.position s.message s.records s.shares s.marks s.clocks s.keys s.job

abbrev pub set_ids : Ids → Coordinator → Coordinator
set_ids x s =
    fields s.commissioned s.config x s.position s.message s.records s.shares s.marks s.clocks s.keys s.job

abbrev pub set_position : Position → Coordinator → Coordinator
set_position x s =
    fields s.commissioned s.config s.ids x s.message s.records s.shares s.marks s.clocks s.keys s.job

abbrev pub set_message : Message → Coordinator → Coordinator
set_message x s =
    fields s.commissioned s.config s.ids s.position x s.records s.shares s.marks s.clocks s.keys s.job

abbrev pub set_records : Records → Coordinator → Coordinator
set_records x s =
    fields s.commissioned s.config s.ids s.position s.message x s.shares s.marks s.clocks s.keys s.job

abbrev pub set_shares : Shares → Coordinator → Coordinator
set_shares x s =
    fields s.commissioned s.config s.ids s.position s.message s.records x s.marks s.clocks s.keys s.job

abbrev pub set_marks : Marks → Coordinator → Coordinator
set_marks x s =
    fields s.commissioned s.config s.ids s.position s.message s.records s.shares x s.clocks s.keys s.job

abbrev pub set_clocks : Clocks → Coordinator → Coordinator
set_clocks x s =
    fields s.commissioned s.config s.ids s.position s.message s.records s.shares s.marks x s.keys s.job

abbrev pub set_keys : Keys → Coordinator → Coordinator
set_keys x s =
    fields s.commissioned s.config s.ids s.position s.message s.records s.shares s.marks s.clocks x s.job

abbrev pub set_job : Bool → Coordinator → Coordinator
set_job x s =
    fields s.commissioned s.config s.ids s.position s.message s.records s.shares s.marks s.clocks s.keys x

-- one slot of one row
abbrev pub set_slot : ℕ → ResponseSlot → SignRoundInfo → SignRoundInfo
set_slot i x row = record { message = row.message; slots = set row.slots i x }

abbrev pub set_row : ℕ → SignRoundInfo → Records → Records
set_row r row rs = record { rows = set rs.rows r row; count = rs.count }
