use Rattle.smf_write.proofs.Parts.{five_parts}
use Rattle.smf_write.proofs.file.push_header.Goals as goal

pub returns : goal.returns
returns c = five_parts _ _ _ _ _ _ _ _ _ _ _ _ _ _ _ _
    c.in_ok-extend_from_slice.ensures.items
    c.in_ok-extend_from_slice-2.ensures.items
    c.in_ok-extend_from_slice-3.ensures.items
    c.in_ok-extend_from_slice-4.ensures.items
    c.in_ok-extend_from_slice-5.ensures.items
    c.to_be_bytes.ensures
    c.to_be_bytes-2.ensures
    c.to_be_bytes-3.ensures
    c.to_be_bytes-4.ensures
    c.to_be_bytes-5.ensures
