-- The structs of fuse.h that a reply and a request hold by their bytes, computed from these. Nothing is to be learned
-- here: the readers ensure that the bytes spell them, and attributes lie within an entry or an answer that gives attributes.
use Rattle.std.specs.Prelude.{List, ℕ, drop}
use Rattle.fa_bodies.specs.declared.attributes.AttrOut.{AttrOut}
use Rattle.fa_bodies.specs.declared.attributes.Attributes.{Attributes}
use Rattle.fa_bodies.specs.declared.entry.EntryOut.{EntryOut}
use Rattle.fa_bodies.specs.declared.setattr.SetattrIn.{SetattrIn}
use Rattle.fa_bodies.specs.declared.views.EntryBytes.{EntryBytes}
use Rattle.fa_bodies.specs.declared.views.AttrBytes.{AttrBytes}
use Rattle.fa_bodies.specs.declared.views.AttributesBytes.{AttributesBytes}
use Rattle.fa_bodies.specs.declared.views.SetattrBytes.{SetattrBytes}
use Rattle.fa_bodies.specs.Listing.{u32_in, u64_in, attributes_in, entry_out_in}

-- the attr_out in the first 104 bytes
unfoldable pub attr_out_in : List ℕ → AttrOut
attr_out_in bytes =
    record {
      attr_valid = u64_in bytes;
      attr_valid_nsec = u32_in (drop 8 bytes);
      attr = attributes_in (drop 16 bytes);
    }

-- the setattr_in in the first 88 bytes
unfoldable pub setattr_in_in : List ℕ → SetattrIn
setattr_in_in bytes =
    record {
      valid = record { 0 = u32_in bytes };
      fh = u64_in (drop 8 bytes);
      size = u64_in (drop 16 bytes);
      lock_owner = u64_in (drop 24 bytes);
      atime = u64_in (drop 32 bytes);
      mtime = u64_in (drop 40 bytes);
      ctime = u64_in (drop 48 bytes);
      atimensec = u32_in (drop 56 bytes);
      mtimensec = u32_in (drop 60 bytes);
      ctimensec = u32_in (drop 64 bytes);
      mode = record { 0 = u32_in (drop 68 bytes) };
      uid = u32_in (drop 76 bytes);
      gid = u32_in (drop 80 bytes);
    }

-- what each of them says
abbrev pub entry_shown : EntryBytes → EntryOut
entry_shown e = entry_out_in e.bytes.now

abbrev pub attr_shown : AttrBytes → AttrOut
attr_shown a = attr_out_in a.bytes.now

abbrev pub attributes_shown : AttributesBytes → Attributes
attributes_shown a = attributes_in a.bytes.now

abbrev pub setattr_shown : SetattrBytes → SetattrIn
setattr_shown s = setattr_in_in s.bytes.now
