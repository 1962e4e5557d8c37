-- What a handle owns: a session in a block of the C library's heap, or nothing.
use base.Fml.{Fml, feq}
use denote.RawPtr.{Ptr, null_ptr}
use Rattle.std.specs.declared.option.Option.{Option}
use Rattle.std.specs.declared.option.Option.TheVariants.{None, Some}
use Rattle.std.specs.declared.alloc.Global.{Global}
use Rattle.std.specs.contracts.impls.GlobalAllocator.TheImpl.{ghosts}
use Rattle.std.specs.Box.Ownership.{box_owns}
use Rattle.dn_session.specs.contracts.session.Session as session
use Rattle.dn_session.specs.declared.session.Session.{Session}

-- the C library's heap, which is one
abbrev pub heap : Global
heap = record { memory = record { seal = tt } }

-- nothing at null, or a session in a block of its own
abbrev pub handle_owns : Ptr → Option Session → Fml
handle_owns p None = feq Ptr p null_ptr
handle_owns p (Some x) = box_owns (ghosts.dealloc_token heap) session.the_row p x
