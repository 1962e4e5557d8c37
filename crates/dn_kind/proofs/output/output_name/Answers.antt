use Rattle.std.proofs.Common.{◌∙◌, ℕ, List, get_or, ◌≤◌, ◌<◌, ap, length, arith}
use Rattle.dn_kind.specs.Units.{unit_shape}
use Rattle.dn_kind.proofs.Outputs.{HasPages, has_pages, page_some, output_fits, port_there, sent_is}
use Rattle.dn_kind.proofs.output.output_name.Goals as goal

pub overflow_shl-page : goal.overflow_shl-page
overflow_shl-page c =
    let s : HasPages (unit_shape c.args.unit.now) = has_pages (unit_shape c.args.unit.now) c.requires.plain in
    let page : c.args.unit.now.page ≤ 40 = s.page in
    omega arith

pub overflow_mul-result : goal.overflow_mul-result
overflow_mul-result c =
    let fits = output_fits (unit_shape c.args.unit.now) c.args.record c.args.addr c.requires.plain c.requires.within in
    omega arith

pub overflow_add-result : goal.overflow_add-result
overflow_add-result c =
    let fits = output_fits (unit_shape c.args.unit.now) c.args.record c.args.addr c.requires.plain c.requires.within in
    omega arith

pub bounds-as_slice-from : goal.bounds-as_slice-from
bounds-as_slice-from c =
    let l : c.args.record.port < length c.args.unit.now.ports = port_there (unit_shape c.args.unit.now) c.args.record c.requires.within in
    let e = ap length c.as_slice.ensures in
    let f = c.from.ensures in
    omega arith

pub nonzero_rem-result : goal.nonzero_rem-result
nonzero_rem-result c =
    let s : HasPages (unit_shape c.args.unit.now) = has_pages (unit_shape c.args.unit.now) c.requires.plain in
    page_some c.args.unit.now.page s.page

pub returns : goal.returns
returns c = sent_is c.args.unit.now c.args.record c.args.addr _ 0 0 c.requires.plain (let l = port_there (unit_shape c.args.unit.now) c.args.record c.requires.within in l) (ap (λ n. get_or c.as_slice.result.now n 0) c.from.ensures ∙ ap (λ (l : List ℕ). get_or l c.args.record.port 0) c.as_slice.ensures)
