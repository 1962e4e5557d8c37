-- The names of a net as the ends of rows.
use Rattle.dn_interval.specs.declared.row.End.{End}
use Rattle.dn_net.specs.declared.node.Name.{Name}

-- the name that an end of a row is
abbrev pub name_of_end : End → Name
name_of_end e = record { node = e.node; addr = e.base }

-- a name, as rows have it
abbrev pub end_of : Name → End
end_of x = record { node = x.node; base = x.addr }
