-- SPDX-License-Identifier: MIT OR Apache-2.0
mod Bytes
mod Whole
