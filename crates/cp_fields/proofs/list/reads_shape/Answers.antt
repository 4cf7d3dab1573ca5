use Rattle.std.proofs.Common.{◌≡◌, true, sym, ap, ◌∙◌}
use Rattle.cp_fields.proofs.Pointed.{reads_of, field_read, field_other}
use Rattle.cp_fields.proofs.list.reads_shape.Goals as goal

pub returns-in-Null : goal.returns-in-Null
returns-in-Null c =
    let e : true ≡ reads_of c.args.wanted c.args.shape = sym (ap (reads_of c.args.wanted) c.in-Null.is) in
    record { read = field_read c.args.wanted c.args.shape true e; other = field_other c.args.wanted c.args.shape true e }

pub returns-in-List : goal.returns-in-List
returns-in-List c =
    let r = c.reads_from.result in
    let e : r ≡ reads_of c.args.wanted c.args.shape = c.reads_from.ensures ∙ sym (ap (reads_of c.args.wanted) c.in-List.is) in
    record { read = field_read c.args.wanted c.args.shape r e; other = field_other c.args.wanted c.args.shape r e }

pub returns-in-Structs : goal.returns-in-Structs
returns-in-Structs c =
    let r = c.reads_from_structs.result in
    let e : r ≡ reads_of c.args.wanted c.args.shape = c.reads_from_structs.ensures ∙ sym (ap (reads_of c.args.wanted) c.in-Structs.is) in
    record { read = field_read c.args.wanted c.args.shape r e; other = field_other c.args.wanted c.args.shape r e }
