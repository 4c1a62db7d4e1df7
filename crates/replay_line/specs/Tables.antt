-- The tables that a list's panel is lent, as the panel that they are.
use Rattle.lighting_panel.specs.Paper.Panel.{Panel, panel_of}
use Rattle.replay_line.specs.declared.Tables.{Tables}

abbrev pub panel_in : Tables → Panel
panel_in t = panel_of t.outputs.now t.stations.now t.kept.now

-- the same tables, as they were lent, with the records of the panel p in them
abbrev pub with_panel : Tables → Panel → Tables
with_panel t p = record {
  outputs = record t.outputs { now = p.outputs };
  stations = record t.stations { now = p.stations };
  kept = record t.kept { now = p.kept };
}
